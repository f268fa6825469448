-- The pieces of a word between its dots.
use Rattle.std.proofs.Common.{◌≡◌, ◌+◌, ◌-◌, ◌<◌, ℕ, List, [], ◌∷◌, Option, Bool, true, false, Some, None, cond, length, take, drop, nat_lt, refl, arith, inl, inr}
use Rattle.std.proofs.lemmas.Bool.{cases_Bool, ltb-true}
use Rattle.std.proofs.lemmas.List.{take_rest}
use Rattle.std.proofs.lemmas.List.Splits.{slice_split_first}
use Rattle.std.specs.List.{onto_first, position, position_or_len, slice_split}
use Rattle.version_ranges.specs.Words.{is_dot, wildcard_of_pieces}
use Rattle.version_ranges.specs.declared.condition.Wildcard.{Wildcard}

not_there : (b : Bool) (n : ℕ) → ◌≡◌ {A = Option ℕ} (cond b (Some n) None) None → b ≡ false
not_there true n h = cc h
not_there false n h = refl

there : (b : Bool) (n m : ℕ) → ◌≡◌ {A = Option ℕ} (cond b (Some n) None) (Some m) → (b ≡ true) × (n ≡ m)
there true n m h = (refl, cc)
there false n m h = cc h

-- no element of the list divides it
all_before : (p : ℕ → Bool) (xs : List ℕ) → nat_lt (position_or_len p xs) (length xs) ≡ false → slice_split p xs ≡ xs ∷ []
all_before p [] h = refl
all_before p (x ∷ xs) h = elim (cases_Bool (p x)) [
  | inl hit ↦ grind (arith, rw hit at h)
  | inr other ↦
      let shorter : nat_lt (position_or_len p xs) (length xs) ≡ false = grind (arith, rw other at h) in
      rw (other, all_before p xs shorter) refl
]

pub whole_piece : (p : ℕ → Bool) (xs : List ℕ) → position p xs ≡ None → slice_split p xs ≡ xs ∷ []
whole_piece p xs h = all_before p xs (not_there _ _ h)

pub first_piece : (p : ℕ → Bool) (xs : List ℕ) (at : ℕ) → position p xs ≡ Some at → slice_split p xs ≡ take at xs ∷ slice_split p (take (length xs - (at + 1)) (drop (at + 1) xs))
first_piece p xs at h =
    let found = there _ _ _ h in
    let inside : position_or_len p xs < length xs = ltb-true _ _ found.0 in
    rw (take_rest, ← found.1) (slice_split_first p xs 0 inside)

one_more : (a b c x : List ℕ) (y : ℕ) (pieces : List (List ℕ)) → ◌≡◌ {A = Option Wildcard} (wildcard_of_pieces (a ∷ b ∷ c ∷ onto_first y pieces)) None
one_more a b c x y [] = refl
one_more a b c x y (piece ∷ pieces) = refl

-- a wildcard has three pieces at most
pub four_pieces : (a b c rest : List ℕ) → ◌≡◌ {A = Option Wildcard} (wildcard_of_pieces (a ∷ b ∷ c ∷ slice_split is_dot rest)) None
four_pieces a b c [] = refl
four_pieces a b c (y ∷ rest) = elim (cases_Bool (is_dot y)) [
  | inl hit ↦ rw hit refl
  | inr other ↦ rw other (one_more a b c rest y (slice_split is_dot rest))
]
