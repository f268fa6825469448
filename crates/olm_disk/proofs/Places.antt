-- Places in and out of ranges, and what a write leaves at them.
use Rattle.std.proofs.Common.{◌≡◌, ◌≤◌, ◌<◌, ◌+◌, ◌-◌, ◌⊎◌, inl, inr, ⊎_elim, ℕ, List, [], ◌∷◌, ◌++◌, Bool, true, false, min, length, take, drop, get_or, max, refl, sym, ap, ◌∙◌, subst, arith, length-append, length-take, length-drop}
use Rattle.std.proofs.lemmas.List.{ext_get_or}
use Rattle.std.proofs.lemmas.Grind.{common_steps}
use Rattle.std.proofs.lemmas.Bool.{and_cases, or_parts}
use Rattle.std.proofs.lemmas.Bool.Decides.{nat_tests}
use Rattle.std.specs.Prelude.{nat_le, nat_lt, ◌&&◌}
use Rattle.olm_disk.specs.Disk.{is_in, written}

-- a place that is out of the first range and of the others
pub out_of_first : (at to : ℕ) (ranges : List (ℕ × ℕ)) (place : ℕ) → is_in ((at, to) ∷ ranges) place ≡ false → ((place < at) ⊎ (to ≤ place)) × (is_in ranges place ≡ false)
out_of_first at to ranges place out =
    let parts = or_parts (nat_le at place && nat_lt place to) (is_in ranges place) out in
    (⊎_elim (λ no. inl (grind (arith, nat_tests, no))) (λ no. inr (grind (arith, nat_tests, no))) (and_cases (nat_le at place) (nat_lt place to) parts.0), parts.1)

-- a place that is out of the only range
pub out_of_one : (at to place : ℕ) → (place < at) ⊎ (to ≤ place) → is_in ((at, to) ∷ []) place ≡ false
out_of_one at to place (inl lt) = grind (arith, nat_tests)
out_of_one at to place (inr le) = grind (arith, nat_tests)

pub length-written : (at : ℕ) (piece old : List ℕ) → length (written at piece old) ≡ min at (length old) + (length piece + (length old - (at + length piece)))
length-written at piece old = simp (length-append, length-take, length-drop) (omega arith)

-- the places out of the range stay
pub written_elsewhere : (at : ℕ) (piece old : List ℕ) (place : ℕ) → place < length old → (place < at) ⊎ (at + length piece ≤ place) → get_or (written at piece old) place 0 ≡ get_or old place 0
written_elsewhere at piece old place lt (inl before) = grind (arith, common_steps)
written_elsewhere at piece old place lt (inr behind) = grind (arith, common_steps)
