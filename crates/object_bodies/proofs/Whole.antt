-- What a whole body that is read has given.
use Rattle.std.proofs.Common.{◌≡◌, ℕ, ◌==◌, List, [], ◌∷◌, Bool, true, false, cond, length, nat_le, Option, Some, None, Result, Ok, Err, if◌then◌else◌, MatchBool, refl, sym, ap, ◌∙◌, subst, codes}
use Rattle.std.proofs.lemmas.Bool.{and_parts, or_parts, or_right, or_from}
use Rattle.serde_json.specs.Data.{Data, null, boolean, number, string, array, object}
use Rattle.serde_json.specs.Find.{get_member}
use Rattle.olm_base.specs.Names.{is_name, is_outside_name}
use Rattle.olm_base.specs.Fields.{field, name_of}
use Rattle.olm_base.specs.declared.fields.FieldKind.{FieldKind}
use Rattle.olm_base.specs.declared.fields.FieldKind.TheVariants.{BadName}
use Rattle.json_fields.specs.declared.fault.Fault.{Fault}
use Rattle.json_fields.specs.Faults.{and_then, here, key_step}
use Rattle.json_fields.specs.Values.{as_fields, as_opt_name, opt_name_of, some_name, opt_name_at}
use Rattle.cluster_objects.specs.Kinds.{is_strategy_key, is_group_key, status_of}
use Rattle.cluster_objects.specs.declared.keys.Key.{Key}
use Rattle.cluster_objects.specs.declared.objects.Status.{Status}
use Rattle.cluster_objects.specs.declared.statuses.Made.{Made}
use Rattle.object_bodies.specs.declared.faults.ObjectFault.{ObjectFault}
use Rattle.object_bodies.specs.declared.faults.ObjectFault.TheVariants.{Forbidden}
use Rattle.object_bodies.specs.Faults.{told, bad_field}
use Rattle.object_bodies.specs.Heads.{is_forbidden, is_forbidden_in_plans, is_setting, allowed_unless, user_key, manifest_key, bare_key, is_clusterwide, own_namespace, namespace_at, plan_namespace, placed, or_default}
use Rattle.object_bodies.specs.Fields.{fields_at}
use Rattle.object_bodies.specs.Statuses.{made_of, new_status}
use Rattle.object_bodies.specs.Bodies.{value_of, user_parts, user_value, user_object, plan_parts, plan_value, plan_object}
use Rattle.object_bodies.specs.Laws.{IsNewAt, may_stand_in, AreNew, AreNamed, IsCarried, AreCarried, AreMadeNew}
use Rattle.object_bodies.proofs.Reading.{same_ok, read_then, read_told, read_below, read_here}
use Rattle.object_bodies.proofs.Made.{made_is_new, status_is_new, new_as_made}

abbrev pub allowed_if : Bool → Key → Result Key ObjectFault
allowed_if b key = if b then Err (Forbidden key.kind) else Ok key

allowed_by : (b : Bool) (key found : Key) → allowed_if b key ≡ Ok found → (b ≡ false) × (key ≡ found)
allowed_by true key found e = cc e
allowed_by false key found e = (refl, same_ok key found e)

-- a key that was read, and is of none of these kinds
abbrev pub IsAllowed : (Key → Bool) → Data → Key → Type 0
IsAllowed forbidden value key = (bare_key value ≡ Ok key) × (forbidden key ≡ false)

key_allowed : (forbidden : Key → Bool) (value : Data) (key : Key) → and_then (bare_key value) (allowed_unless forbidden) ≡ Ok key → IsAllowed forbidden value key
key_allowed forbidden value key e =
    let bare = read_then (bare_key value) (allowed_unless forbidden) key e in
    let passed = allowed_by (forbidden bare.0) bare.0 key bare.2 in
    subst (IsAllowed forbidden value) passed.1 (bare.1, passed.0)

-- the parts of a user's body
pub record UserParts (body : List ℕ) (found : Key × Status) : Type 0 where
  pub value : Data
  pub key : Key
  pub namespace : List ℕ
  pub status : Status
  pub value_is : value_of body ≡ Ok value
  pub key_is : user_key value ≡ Ok key
  pub namespace_is : namespace_at key.kind value ≡ Ok namespace
  pub status_is : new_status key value ≡ Ok status
  pub found_is : (placed key namespace, status) ≡ found

pub user_parts_of : (body : List ℕ) (found : Key × Status) → user_object body ≡ Ok found → UserParts body found
user_parts_of body found e =
    let value = read_then (value_of body) user_value found e in
    let key = read_then (user_key value.0) (λ key. told bad_field (user_parts key value.0)) found value.2 in
    let parts = read_told bad_field (user_parts key.0 value.0) found key.2 in
    let namespace = read_then (namespace_at key.0.kind value.0) _ found parts in
    let status = read_then (new_status key.0 value.0) _ found namespace.2 in
    record {
      value = value.0;
      key = key.0;
      namespace = namespace.0;
      status = status.0;
      value_is = value.1;
      key_is = key.1;
      namespace_is = namespace.1;
      status_is = status.1;
      found_is = same_ok _ found status.2;
    }

pub objects_are_new : (body : List ℕ) → AreNew body
objects_are_new body found e =
    let parts = user_parts_of body found e in
    let Wanted : Key × Status → Type 0 = λ found. (is_forbidden found.0 ≡ false) × IsNewAt found.0 found.1 in
    subst Wanted parts.found_is
    ((key_allowed is_forbidden parts.value parts.key parts.key_is).1, status_is_new (placed parts.key parts.namespace) parts.value parts.status parts.status_is)

-- a key that a plan may make an object at sets nothing for a whole namespace
no_setting : (key : Key) → is_forbidden_in_plans key ≡ false → (is_strategy_key key ≡ false) × (is_group_key key ≡ false)
no_setting key e = or_parts (is_strategy_key key) (is_group_key key) (or_parts (is_forbidden key) (is_setting key) e).1

pub makes_are_new : (namespace body : List ℕ) → AreMadeNew namespace body
makes_are_new namespace body found e =
    let value = read_then (value_of body) (plan_value namespace) found e in
    let key = read_then (manifest_key value.0) (λ key. told bad_field (plan_parts namespace key value.0)) found value.2 in
    let parts = read_told bad_field (plan_parts namespace key.0 value.0) found key.2 in
    let made = read_then (made_of key.0 value.0) _ found parts in
    let free = (key_allowed is_forbidden_in_plans value.0 key.0 key.1).1 in
    let (no_strategy, no_group) = no_setting key.0 free in
    let Wanted : Key × Made → Type 0 = λ found. (is_forbidden_in_plans found.0 ≡ false) × IsNewAt found.0 (status_of found.1) in
    subst Wanted (same_ok _ found made.2)
    (free, made_is_new (placed key.0 (plan_namespace key.0.kind namespace)) value.0 made.0 no_strategy no_group made.1)

-- ---- what a plan carries of a user's body

-- what a plan reads, by the value and by the key
plan_reads : (namespace body : List ℕ) (value : Data) (read : Result Key ObjectFault) → value_of body ≡ Ok value → manifest_key value ≡ read
    → plan_object namespace body ≡ and_then read (λ key. told bad_field (plan_parts namespace key value))
plan_reads namespace body value read value_is key_is =
    ap (λ read. and_then read (plan_value namespace)) value_is ∙ ap (λ read. and_then read (λ key. told bad_field (plan_parts namespace key value))) key_is

-- its key, where a user's is this one
manifest_key_if : (value : Data) (key : Key) (b : Bool) → bare_key value ≡ Ok key → is_forbidden_in_plans key ≡ b → manifest_key value ≡ allowed_if b key
manifest_key_if value key b bare forbidden =
    ap (λ read. and_then read (allowed_unless is_forbidden_in_plans)) bare ∙ ap (λ b. allowed_if b key) forbidden

abbrev pub Carried : List ℕ → List ℕ → Bool → Key × Status → Type 0
Carried namespace body b found = MatchBool b (plan_object namespace body ≡ Err (Forbidden found.0.kind)) (IsCarried namespace body found)

carried_if : (namespace body : List ℕ) (found : Key × Status) (parts : UserParts body found) (b : Bool) → is_setting parts.key ≡ b
    → Carried namespace body b (placed parts.key parts.namespace, parts.status)
carried_if namespace body found parts true setting =
    let (bare, free) = key_allowed is_forbidden parts.value parts.key parts.key_is in
    let stopped = or_right (is_forbidden parts.key) (is_setting parts.key) setting in
    plan_reads namespace body parts.value (allowed_if true parts.key) parts.value_is (manifest_key_if parts.value parts.key true bare stopped)
carried_if namespace body found parts false setting =
    let value = parts.value in
    let key = parts.key in
    let (bare, free) = key_allowed is_forbidden value key parts.key_is in
    let (no_strategy, no_group) = or_parts (is_strategy_key key) (is_group_key key) setting in
    let may = or_from (is_forbidden key) (is_setting key) free setting in
    let made = read_then (made_of key value) (λ made. Ok (status_of made)) parts.status (sym (new_as_made key value no_strategy no_group) ∙ parts.status_is) in
    let gives : plan_object namespace body ≡ Ok (placed key (plan_namespace key.kind namespace), made.0) =
    plan_reads namespace body value (allowed_if false key) parts.value_is (manifest_key_if value key false bare may)
    ∙ ap (λ read. told bad_field (and_then read (λ made. Ok (placed key (plan_namespace key.kind namespace), made)))) made.1 in
    (made.0, gives, same_ok (status_of made.0) parts.status made.2)

pub objects_are_carried : (namespace body : List ℕ) → AreCarried namespace body
objects_are_carried namespace body found e =
    let parts = user_parts_of body found e in
    subst (λ found. Carried namespace body (is_setting found.0) found) parts.found_is (carried_if namespace body found parts (is_setting parts.key) refl)

-- ---- namespaces

abbrev pub name_if : Bool → List ℕ → Result (List ℕ) FieldKind
name_if b text = if b then Ok text else Err BadName

name_by : (b : Bool) (text found : List ℕ) → is_outside_name text ≡ b → name_if b text ≡ Ok found → is_name found ≡ true
name_by true text found h e = subst (λ found. is_name found ≡ true) (same_ok text found e) (and_parts (nat_le (length text) 253) (is_name text) h).1
name_by false text found h e = cc e

abbrev pub IsNamed : Option (List ℕ) → Type 0
IsNamed found = is_name (or_default found) ≡ true

some_named : (read : Result (List ℕ) FieldKind) (found : Option (List ℕ)) → ((name : List ℕ) → read ≡ Ok name → is_name name ≡ true) → some_name read ≡ Ok found → IsNamed found
some_named (Ok name) found h e = subst IsNamed (same_ok (Some name) found e) (h name refl)
some_named (Err kind) found h e = cc e

text_named : (text : List ℕ) (found : Option (List ℕ)) → opt_name_of text ≡ Ok found → IsNamed found
text_named [] found e = subst IsNamed (same_ok None found e) refl
text_named (byte ∷ bytes) found e =
    some_named (name_of (byte ∷ bytes)) found (λ name h. name_by (is_outside_name (byte ∷ bytes)) (byte ∷ bytes) name refl h) e

value_named : (value : Option Data) (found : Option (List ℕ)) → as_opt_name value ≡ Ok found → IsNamed found
value_named None found e = subst IsNamed (same_ok None found e) refl
value_named (Some null) found e = subst IsNamed (same_ok None found e) refl
value_named (Some (boolean b)) found e = cc e
value_named (Some (number n)) found e = cc e
value_named (Some (string s)) found e = text_named s found e
value_named (Some (array ds)) found e = cc e
value_named (Some (object ms)) found e = cc e

field_named : (metadata : Data) (key : List ℕ) (found : Option (List ℕ)) → field as_opt_name metadata key ≡ Ok found → IsNamed found
field_named null key found e = cc e
field_named (boolean b) key found e = cc e
field_named (number n) key found e = cc e
field_named (string s) key found e = cc e
field_named (array ds) key found e = cc e
field_named (object ms) key found e = value_named (get_member key ms) found e

own_named : (metadata : Data) (namespace : List ℕ) → own_namespace metadata ≡ Ok namespace → is_name namespace ≡ true
own_named metadata namespace e =
    let key = codes "namespace" in
    let read = read_then (opt_name_at key metadata) _ namespace e in
    let inside = read_below (key_step key) (here (field as_opt_name metadata key)) read.0 read.1 in
    subst (λ namespace. is_name namespace ≡ true) (same_ok (or_default read.0) namespace read.2)
    (field_named metadata key read.0 (read_here (field as_opt_name metadata key) read.0 inside))

abbrev pub namespace_if : Bool → Data → Result (List ℕ) Fault
namespace_if b value = if b then Ok [] else fields_at own_namespace (codes "metadata") value

namespace_by : (b : Bool) (value : Data) (namespace : List ℕ) → namespace_if b value ≡ Ok namespace → cond b (length namespace == 0) (is_name namespace) ≡ true
namespace_by true value namespace e = subst (λ namespace. length namespace == 0 ≡ true) (same_ok [] namespace e) refl
namespace_by false value namespace e =
    let key = codes "metadata" in
    let inside = read_below (key_step key) (and_then (here (field as_fields value key)) own_namespace) namespace e in
    let part = read_then (here (field as_fields value key)) own_namespace namespace inside in
    own_named part.0 namespace part.2

pub objects_are_named : (body : List ℕ) → AreNamed body
objects_are_named body found e =
    let parts = user_parts_of body found e in
    let Wanted : Key × Status → Type 0 = λ found. may_stand_in found.0.kind found.0.namespace ≡ true in
    subst Wanted parts.found_is (namespace_by (is_clusterwide parts.key.kind) parts.value parts.namespace parts.namespace_is)
