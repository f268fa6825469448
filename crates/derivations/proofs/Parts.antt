-- The parts of a text between bytes.
use Rattle.std.proofs.Common.{◌≡◌, ◌+◌, ◌-◌, ◌<◌, ◌==◌, ℕ, List, [], ◌∷◌, Option, Result, Ok, Err, Bool, true, false, Some, None, cond, length, take, drop, nat_lt, refl, sym, arith, inl, inr}
use Rattle.std.proofs.lemmas.Bool.{cases_Bool, ltb-true}
use Rattle.std.proofs.lemmas.List.{take_rest}
use Rattle.std.proofs.lemmas.List.Splits.{slice_split_first}
use Rattle.std.specs.List.{onto_first, position, position_or_len, slice_split}
use Rattle.derivations.specs.Reading.{parts, line_at, line, end, ended, nothing}
use Rattle.derivations.specs.declared.reading.cert_text.CertText.{CertText}
use Rattle.derivations.specs.declared.reading.cert_text.CertText.TheVariants.{BadLine}

not_there : (b : Bool) (n : ℕ) → ◌≡◌ {A = Option ℕ} (cond b (Some n) None) None → b ≡ false
not_there true n h = cc h
not_there false n h = refl

there : (b : Bool) (n m : ℕ) → ◌≡◌ {A = Option ℕ} (cond b (Some n) None) (Some m) → (b ≡ true) × (n ≡ m)
there true n m h = (refl, cc)
there false n m h = cc h

-- no element of the list divides it
all_before : (p : ℕ → Bool) (xs : List ℕ) → nat_lt (position_or_len p xs) (length xs) ≡ false → slice_split p xs ≡ xs ∷ []
all_before p [] h = refl
all_before p (x ∷ xs) h = elim (cases_Bool (p x)) [
  | inl hit ↦ grind (arith, rw hit at h)
  | inr other ↦
      let shorter : nat_lt (position_or_len p xs) (length xs) ≡ false = grind (arith, rw other at h) in
      rw (other, all_before p xs shorter) refl
]

pub whole_part : (p : ℕ → Bool) (xs : List ℕ) → position p xs ≡ None → slice_split p xs ≡ xs ∷ []
whole_part p xs h = all_before p xs (not_there _ _ h)

pub first_part : (p : ℕ → Bool) (xs : List ℕ) (at : ℕ) → position p xs ≡ Some at → slice_split p xs ≡ take at xs ∷ slice_split p (take (length xs - (at + 1)) (drop (at + 1) xs))
first_part p xs at h =
    let found = there _ _ _ h in
    let inside : position_or_len p xs < length xs = ltb-true _ _ found.0 in
    rw (take_rest, ← found.1) (slice_split_first p xs 0 inside)

-- a list that isn't empty
abbrev pub HasFirst : List (List ℕ) → Type 0
HasFirst texts = (first : List ℕ) × (more : List (List ℕ)) × (texts ≡ first ∷ more)

onto_first_there : (x : ℕ) (texts : List (List ℕ)) → HasFirst (onto_first x texts)
onto_first_there x [] = (x ∷ [], [], refl)
onto_first_there x (text ∷ texts) = (x ∷ text, texts, refl)

pub parts_there : (byte : ℕ) (text : List ℕ) → HasFirst (parts byte text)
parts_there byte [] = ([], [], refl)
parts_there byte (x ∷ xs) = elim (cases_Bool (x == byte)) [
  | inl hit ↦ ([], parts byte xs, rw hit refl)
  | inr other ↦ rw other (onto_first_there x (parts byte xs))
]

abbrev Next : Type 0
Next = Result (List ℕ × List (List ℕ)) CertText

line_in_front : (line : List ℕ) (texts : List (List ℕ)) → HasFirst texts → ◌≡◌ {A = Next} (line_at (line ∷ texts)) (Ok (line, texts))
line_in_front line texts h = rw (h.2) refl

pub line_there : (line after text : List ℕ) → parts 10 text ≡ line ∷ parts 10 after → ◌≡◌ {A = Next} (line_at (parts 10 text)) (Ok (line, parts 10 after))
line_there line after text h = rw h (line_in_front line (parts 10 after) (parts_there 10 after))

more_than_nothing : (number : ℕ) (texts : List (List ℕ)) → HasFirst texts → nothing number ([] ∷ texts) ≡ Err (BadLine number)
more_than_nothing number texts h = rw (h.2) refl

onto_is_something : (number x : ℕ) (texts : List (List ℕ)) → nothing number (onto_first x texts) ≡ Err (BadLine number)
onto_is_something number x [] = refl
onto_is_something number x (text ∷ texts) = refl

-- a byte is not nothing
pub something : (number x : ℕ) (xs : List ℕ) → nothing number (parts 10 (x ∷ xs)) ≡ Err (BadLine number)
something number x xs = elim (cases_Bool (x == 10)) [
  | inl hit ↦ rw hit (more_than_nothing number (parts 10 xs) (parts_there 10 xs))
  | inr other ↦ rw other (onto_is_something number x (parts 10 xs))
]

pub ended_more : (number : ℕ) (rest text : List ℕ) → 0 < length rest → Ok (tt, parts 10 rest) ≡ line end number (parts 10 text) → Err (BadLine (number + 1)) ≡ ended number (parts 10 text)
ended_more number [] text h e = absurd (omega arith)
ended_more number (x ∷ xs) text h e = rw (← e) (sym (something (number + 1) x xs))
