-- The object of a user's body stands in a namespace that is a name, or in none.
use Rattle.std.proofs.Common.{◌≡◌, Bool, true, false, cond, List, [], ◌∷◌, ℕ, Option, Some, None, Result, Ok, Err, refl, sym, ap, ◌∙◌, subst, ◌&&◌, nat_le, length}
use Rattle.std.specs.Prelude.{codes}
use Rattle.std.proofs.lemmas.Bool.{and_parts, or_right}
use Rattle.serde_json.specs.Data.{Data, null, boolean, number, string, array, object}
use Rattle.serde_json.specs.Find.{get_member}
use Rattle.olm_base.specs.Names.{is_name, is_outside_name}
use Rattle.olm_base.specs.Fields.{field, name_of}
use Rattle.olm_base.specs.declared.fields.FieldKind.{FieldKind}
use Rattle.olm_base.specs.declared.fields.FieldKind.TheVariants.{BadName}
use Rattle.json_fields.specs.declared.fault.Fault.{Fault}
use Rattle.json_fields.specs.Faults.{and_then, here, below, key_step}
use Rattle.json_fields.specs.Values.{as_fields, as_opt_name, some_name, opt_name_at}
use Rattle.cluster_objects.specs.declared.keys.Key.{Key}
use Rattle.cluster_objects.specs.declared.objects.Status.{Status}
use Rattle.object_bodies.specs.declared.faults.ObjectFault.{ObjectFault}
use Rattle.object_bodies.specs.Bodies.{value_of, user_object, user_value, user_parts}
use Rattle.object_bodies.specs.Faults.{told, bad_field}
use Rattle.object_bodies.specs.Fields.{fields_at}
use Rattle.object_bodies.specs.Heads.{user_key, is_clusterwide, namespace_at, or_default, own_namespace, placed}
use Rattle.object_bodies.specs.Statuses.{new_status}
use Rattle.std.specs.Result.{IsOk}
use Rattle.user_events.specs.Asked.{apply_wish}
use Rattle.cluster_objects.specs.Places.{is_place}
use Rattle.user_events.specs.declared.wishes.Wish.{Wish}
use Rattle.user_events.proofs.Chains.{then_ok, told_ok, below_ok, here_ok, ok_is}

pub named_place : (namespace : List ℕ) → is_name namespace ≡ true → is_place namespace ≡ true
named_place namespace is = or_right _ _ is

-- a name that was read is one
name_read : (text name : List ℕ) → name_of text ≡ Ok name → is_name name ≡ true
name_read text name e = by_test (is_outside_name text) refl e
  where
    by_test : (b : Bool) → is_outside_name text ≡ b → cond {A = Result (List ℕ) FieldKind} b (Ok text) (Err BadName) ≡ Ok name → is_name name ≡ true
    by_test true is e =
        let same : text ≡ name = cc in
        subst (λ n. is_name n ≡ true) same (and_parts (nat_le (length text) 253) (is_name text) is).1
    by_test false is e = absurd cc

some_read : (read : Result (List ℕ) FieldKind) (name : List ℕ) → some_name read ≡ Ok (Some name) → read ≡ Ok name
some_read (Ok text) name e = let same : text ≡ name = cc in ap Ok same
some_read (Err kind) name e = absurd cc

opt_read : (found : Option Data) (name : List ℕ) → as_opt_name found ≡ Ok (Some name) → is_name name ≡ true
opt_read None name e = absurd cc
opt_read (Some null) name e = absurd cc
opt_read (Some (boolean b)) name e = absurd cc
opt_read (Some (number n)) name e = absurd cc
opt_read (Some (string [])) name e = absurd cc
opt_read (Some (string (byte ∷ bytes))) name e = name_read (byte ∷ bytes) name (some_read (name_of (byte ∷ bytes)) name e)
opt_read (Some (array ds)) name e = absurd cc
opt_read (Some (object ms)) name e = absurd cc

in_field : (value : Data) (key name : List ℕ) → field as_opt_name value key ≡ Ok (Some name) → is_name name ≡ true
in_field null key name e = absurd cc
in_field (boolean b) key name e = absurd cc
in_field (number n) key name e = absurd cc
in_field (string s) key name e = absurd cc
in_field (array ds) key name e = absurd cc
in_field (object ms) key name e = opt_read (get_member key ms) name e

default_is_place : (found : Option (List ℕ)) → ((name : List ℕ) → found ≡ Some name → is_name name ≡ true) → is_place (or_default found) ≡ true
default_is_place None is = refl
default_is_place (Some name) is = or_right _ _ (is name refl)

own_is_place : (metadata : Data) (namespace : List ℕ) → own_namespace metadata ≡ Ok namespace → is_place namespace ≡ true
own_is_place metadata namespace e =
    let found = then_ok (opt_name_at (codes "namespace") metadata) (λ read. Ok (or_default read)) namespace e in
    let same : or_default found.0 ≡ namespace = let last = found.2 in cc in
    let inside : Result (Option (List ℕ)) FieldKind = field as_opt_name metadata (codes "namespace") in
    let read = here_ok inside found.0 (below_ok (key_step (codes "namespace")) (here inside) found.0 found.1) in
    subst (λ n. is_place n ≡ true) same (default_is_place found.0 (λ name is. in_field metadata (codes "namespace") name (read ∙ ap Ok is)))

namespace_is_place : (kind : List ℕ) (value : Data) (namespace : List ℕ) → namespace_at kind value ≡ Ok namespace → is_place namespace ≡ true
namespace_is_place kind value namespace e = by_test (is_clusterwide kind) e
  where
    by_test : (b : Bool) → cond {A = Result (List ℕ) Fault} b (Ok []) (fields_at own_namespace (codes "metadata") value) ≡ Ok namespace → is_place namespace ≡ true
    by_test true e = let same : [] ≡ namespace = cc in subst (λ n. is_place n ≡ true) same refl
    by_test false e =
        let fields : Result Data FieldKind = field as_fields value (codes "metadata") in
        let inside = then_ok (here fields) own_namespace namespace (below_ok (key_step (codes "metadata")) (and_then (here fields) own_namespace) namespace e) in
        own_is_place inside.0 namespace inside.2

parts_in_place : (key : Key) (value : Data) (found : Key × Status) → user_parts key value ≡ Ok found → is_place found.0.namespace ≡ true
parts_in_place key value found e =
    let space = then_ok (namespace_at key.kind value) (λ namespace. and_then (new_status key value) (λ status. Ok (placed key namespace, status))) found e in
    let status = then_ok (new_status key value) (λ status. Ok (placed key space.0, status)) found space.2 in
    subst (λ (r : Key × Status). is_place r.0.namespace ≡ true) (ok_is _ _ status.2) (namespace_is_place key.kind value space.0 space.1)

pub object_in_place : (body : List ℕ) (found : Key × Status) → user_object body ≡ Ok found → is_place found.0.namespace ≡ true
object_in_place body found e =
    let value = then_ok (value_of body) user_value found e in
    let key = then_ok (user_key value.0) (λ key. told bad_field (user_parts key value.0)) found value.2 in
    parts_in_place key.0 value.0 found (told_ok bad_field (user_parts key.0 value.0) found key.2)

pub wish_in_place : (body : List ℕ) (found : Key × Wish) → apply_wish body (user_object body) ≡ Ok found → is_place found.0.namespace ≡ true
wish_in_place body found e = by_object (user_object body) refl e
  where
    by_object : (read : Result (Key × Status) ObjectFault) → user_object body ≡ read → apply_wish body read ≡ Ok found → is_place found.0.namespace ≡ true
    by_object (Ok made) is e = subst (λ (f : Key × Wish). is_place f.0.namespace ≡ true) (ok_is _ _ e) (object_in_place body made is)
    by_object (Err fault) is e = absurd cc

pub wish_is_read : (body : List ℕ) (read : Result (Key × Status) ObjectFault) (found : Key × Wish) → apply_wish body read ≡ Ok found → IsOk read
wish_is_read body (Ok made) found e = refl
wish_is_read body (Err fault) found e = absurd cc
