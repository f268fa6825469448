-- Keys that compare alike are one key, and the order is total.
use Rattle.std.proofs.Common.{◌≡◌, ◌≢◌, true, false, List, ℕ, refl, ap}
use Rattle.std.specs.Cmp.{IsTotalOrder, IsEquivalence, on_total, then_total, eq_by_cmp_equiv}
use Rattle.std.specs.Cmp.Lexicographic.{nat_list_cmp_total}
use Rattle.std.specs.Ordering.{is_eq}
use Rattle.std.specs.declared.cmp.Ordering.{Ordering}
use Rattle.std.specs.declared.cmp.Ordering.TheVariants.{Equal, Less, Greater}
use Rattle.std.proofs.lemmas.Map.Lookups.{CmpEqualImpliesEq, exact_bytes, exact_pairs}
use Rattle.std.proofs.lemmas.Bool.{false_from_ne_true}
use Rattle.cluster_objects.specs.Keys.{key_cmp, same_key}
use Rattle.cluster_objects.specs.declared.keys.Key.{Key}

abbrev Parts : Type 0
Parts = List ℕ × (List ℕ × (List ℕ × List ℕ))

pub keys_total : IsTotalOrder key_cmp
unfolding key_cmp
keys_total =
    then_total (on_total (λ k. k.group) nat_list_cmp_total)
    (then_total (on_total (λ k. k.kind) nat_list_cmp_total)
    (then_total (on_total (λ k. k.namespace) nat_list_cmp_total) (on_total (λ k. k.name) nat_list_cmp_total)))

pub exact_keys : CmpEqualImpliesEq key_cmp
unfolding key_cmp
exact_keys a b h =
    ap (λ (p : Parts). record { group = p.0; kind = p.1.0; namespace = p.1.1.0; name = p.1.1.1 })
    (exact_pairs _ _ exact_bytes (exact_pairs _ _ exact_bytes (exact_pairs _ _ exact_bytes exact_bytes))
    (a.group, (a.kind, (a.namespace, a.name))) (b.group, (b.kind, (b.namespace, b.name))) h)

pub keys_equiv : IsEquivalence same_key
unfolding same_key
keys_equiv = eq_by_cmp_equiv keys_total

pub same_key-true : (a b : Key) → same_key a b ≡ true → a ≡ b
unfolding same_key
same_key-true a b h = exact_keys a b (Equal_from_is_eq (key_cmp a b) h)
  where
    Equal_from_is_eq : (o : Ordering) → is_eq o ≡ true → o ≡ Equal
    Equal_from_is_eq Less h = cc
    Equal_from_is_eq Equal h = refl
    Equal_from_is_eq Greater h = cc

pub same_key-refl : (a : Key) → same_key a a ≡ true
same_key-refl a = keys_equiv.refl a

pub same_key-false : (a b : Key) → a ≢ b → same_key a b ≡ false
same_key-false a b ne = false_from_ne_true (same_key a b) (λ h. ne (same_key-true a b h))
