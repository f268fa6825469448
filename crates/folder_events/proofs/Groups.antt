-- A namespace that may be empty is a place of an object.
use Rattle.std.proofs.Common.{◌≡◌, ◌≤◌, ℕ, List, [], ◌∷◌, true, length, nat_le, refl, arith}
use Rattle.std.specs.Prelude.{codes}
use Rattle.std.specs.List.{list_all}
use Rattle.std.specs.Cmp.Derive.{both_true}
use Rattle.std.proofs.lemmas.Bool.{and_parts, or_right, leb-true, le-leb}
use Rattle.cluster_objects.specs.Keys.{same_text}
use Rattle.olm_base.specs.Names.{is_group, is_name, is_name_byte}
use Rattle.cluster_objects.specs.Places.{is_place}

pub group_place : (text : List ℕ) → is_group text ≡ true → is_place text ≡ true
group_place [] is = refl
group_place (byte ∷ bytes) is =
    let parts = and_parts (nat_le (length (byte ∷ bytes)) 253) (list_all is_name_byte (byte ∷ bytes)) is in
    let short : length (byte ∷ bytes) ≤ 253 = leb-true _ _ parts.0 in
    let some : 1 ≤ length (byte ∷ bytes) = omega arith in
    let few : length (byte ∷ bytes) ≤ 1100 = omega (arith, short) in
    or_right (same_text (byte ∷ bytes) (codes "")) (is_name (byte ∷ bytes)) (both_true (both_true (le-leb 1 _ some) (le-leb _ 1100 few)) parts.1)
