-- The key of a namespace's strategy, told by its parts.
use Rattle.std.proofs.Common.{◌≡◌, Bool, true, false, ◌&&◌, List, ℕ, codes, refl, sym, ap, ◌∙◌, subst}
use Rattle.std.specs.BTreeMap.{is_at}
use Rattle.std.specs.Ordering.{is_eq}
use Rattle.std.specs.declared.cmp.Ordering.TheVariants.{Equal}
use Rattle.std.proofs.lemmas.Bool.{and_parts, and_from}
use Rattle.std.proofs.lemmas.Cmp.{nat_list_cmp_total, tied_itself}
use Rattle.cluster_objects.specs.Keys.{key_cmp, same_key, same_text, text_cmp}
use Rattle.cluster_objects.specs.Kinds.{is_strategy_key, local}
use Rattle.cluster_objects.specs.Places.{strategy_key}
use Rattle.cluster_objects.specs.declared.keys.Key.{Key}
use Rattle.cluster_objects.proofs.Ordering.{same_key-true}
use Rattle.cluster_objects.proofs.Stamping.{same_text-refl}
use Rattle.op_properties.proofs.Singles.{same_is}
use Rattle.view_basis.proofs.Slots.{by_names}

-- the key has the kind, the namespace and the name
abbrev pub has_parts : List ℕ → Key → Bool
has_parts namespace key = is_strategy_key key && (same_text key.namespace namespace && same_text key.name (codes "strategy"))

by_parts : (namespace : List ℕ) (key : Key) → has_parts namespace key ≡ true → is_at (key_cmp (strategy_key namespace)) key ≡ true
by_parts namespace key h =
    let (kind, place) = and_parts (is_strategy_key key) (same_text key.namespace namespace && same_text key.name (codes "strategy")) h in
    let (g, k) = and_parts (same_text key.group local) (same_text key.kind (codes "Strategy")) kind in
    let (n, m) = and_parts (same_text key.namespace namespace) (same_text key.name (codes "strategy")) place in
    let one : key_cmp (strategy_key namespace) key ≡ text_cmp (codes "strategy") key.name =
    by_names (strategy_key namespace) key (sym (same_is key.group local g)) (sym (same_is key.kind (codes "Strategy") k)) (sym (same_is key.namespace namespace n)) in
    let tied : text_cmp (codes "strategy") key.name ≡ Equal =
    subst (λ name. text_cmp (codes "strategy") name ≡ Equal) (sym (same_is key.name (codes "strategy") m)) (tied_itself nat_list_cmp_total (codes "strategy")) in
    ap is_eq (one ∙ tied)

its_parts : (namespace : List ℕ) → has_parts namespace (strategy_key namespace) ≡ true
its_parts namespace = and_from true (same_text namespace namespace && true) refl (and_from (same_text namespace namespace) true (same_text-refl namespace) refl)

by_place : (namespace : List ℕ) (key : Key) → is_at (key_cmp (strategy_key namespace)) key ≡ true → has_parts namespace key ≡ true
unfolding same_key
by_place namespace key h = subst (λ k. has_parts namespace k ≡ true) (same_key-true (strategy_key namespace) key h) (its_parts namespace)

alike : (a b : Bool) → (a ≡ true → b ≡ true) → (b ≡ true → a ≡ true) → a ≡ b
alike true true f g = refl
alike true false f g = sym (f refl)
alike false true f g = g refl
alike false false f g = refl

pub parts_are_place : (namespace : List ℕ) (key : Key) → has_parts namespace key ≡ is_at (key_cmp (strategy_key namespace)) key
parts_are_place namespace key =
    alike (has_parts namespace key) (is_at (key_cmp (strategy_key namespace)) key) (by_parts namespace key) (by_place namespace key)
