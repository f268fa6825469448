-- A text that is read in pieces is these pieces again.
use Rattle.std.proofs.Common.{◌≡◌, ◌+◌, ◌-◌, ◌<◌, ◌==◌, ℕ, List, [], ◌∷◌, ◌++◌, Option, Bool, true, false, Some, None, cond, length, take, drop, get_or, nat_lt, nat_eq, refl, sym, ap, ◌∙◌, arith, inl, inr}
use Rattle.std.specs.Char.{is_ascii_digit}
use Rattle.std.specs.Cmp.Lexicographic.{pointwise}
use Rattle.std.specs.Option.{option_map}
use Rattle.std.specs.List.{list_all, onto_first, position_or_len}
use Rattle.std.proofs.lemmas.Bool.{cases_Bool, ltb-true, eqb-true}
use Rattle.std.proofs.lemmas.Bool.Decides.{nat_tests}
use Rattle.std.proofs.lemmas.List.{take-append-drop}
use Rattle.std.proofs.lemmas.List.Sums.{split_at_first, passes_at_first}
use Rattle.std.proofs.lemmas.Str.Parse.{IsNumeralModel, IsDigitsTest, FoldsDigits, numerals_by_fold}
use Rattle.std.specs.Prelude.{fold}
use Rattle.derivations.specs.Text.{joined}
use Rattle.derivations.specs.Reading.{cut, behind, before, parts, value_after, value_of}

-- ---- texts

pub same_text : (xs ys : List ℕ) → pointwise nat_eq xs ys ≡ true → xs ≡ ys
same_text [] [] h = refl
same_text [] (y ∷ ys) h = absurd cc
same_text (x ∷ xs) [] h = absurd cc
same_text (x ∷ xs) (y ∷ ys) h = elim (cases_Bool (x == y)) [
  | inl hit ↦
      let first : x ≡ y = eqb-true x y hit in
      let rest : xs ≡ ys = same_text xs ys (cc (rw hit at h)) in
      rw (first, rest) refl
  | inr other ↦ absurd (cc (rw other at h))
]

guarded : {A : Type 0} (b : Bool) (x y : A) → ◌≡◌ {A = Option A} (cond b (Some x) None) (Some y) → (b ≡ true) × (x ≡ y)
guarded true x y h = (refl, cc)
guarded false x y h = absurd cc

pub behind_is : (words text rest : List ℕ) → behind words text ≡ Some rest → text ≡ words ++ rest
behind_is words text rest h =
    let found = guarded (pointwise nat_eq (take (length words) text) words) (drop (length words) text) rest h in
    sym (take-append-drop (length words) text) ∙ ap (λ (x : List ℕ). x ++ drop (length words) text) (same_text (take (length words) text) words found.0) ∙ ap (λ (x : List ℕ). words ++ x) found.1

pub before_is : (byte : ℕ) (text front : List ℕ) → before byte text ≡ Some front → text ≡ front ++ byte ∷ []
before_is byte text front h =
    let found = guarded (pointwise nat_eq (drop (length text - 1) text) (byte ∷ [])) (take (length text - 1) text) front h in
    sym (take-append-drop (length text - 1) text) ∙ ap (λ (x : List ℕ). take (length text - 1) text ++ x) (same_text (drop (length text - 1) text) (byte ∷ []) found.0) ∙ ap (λ (x : List ℕ). x ++ byte ∷ []) found.1

cut_at : (p : ℕ → Bool) (text : List ℕ) (around : List ℕ × List ℕ) (b : Bool) (at : ℕ) → ◌≡◌ {A = Option (List ℕ × List ℕ)} (option_map (λ at. (take at text, drop (at + 1) text)) (cond b (Some at) None)) (Some around)
    → (b ≡ true) × (take at text ≡ around.0) × (drop (at + 1) text ≡ around.1)
cut_at p text around true at h =
    let same : ◌≡◌ {A = List ℕ × List ℕ} (take at text, drop (at + 1) text) around = cc in
    (refl, ap (λ (x : List ℕ × List ℕ). x.0) same, ap (λ (x : List ℕ × List ℕ). x.1) same)
cut_at p text around false at h = absurd cc

pub cut_is : (byte : ℕ) (text : List ℕ) (around : List ℕ × List ℕ) → cut byte text ≡ Some around → text ≡ around.0 ++ byte ∷ around.1
cut_is byte text around h =
    let p = λ (b : ℕ). b == byte in
    let found = cut_at p text around (nat_lt (position_or_len p text) (length text)) (position_or_len p text) h in
    let inside : position_or_len p text < length text = ltb-true _ _ found.0 in
    let first : get_or text (position_or_len p text) 0 ≡ byte = eqb-true _ _ (passes_at_first p text 0 inside) in
    split_at_first p text 0 inside ∙ rw (first, found.1, found.2) refl

-- ---- parts

onto : (byte x : ℕ) (xs : List ℕ) (texts : List (List ℕ)) → byte ∷ xs ≡ joined (λ part. byte ∷ part) texts → byte ∷ x ∷ xs ≡ joined (λ part. byte ∷ part) (onto_first x texts)
onto byte x xs [] h = absurd cc
onto byte x xs (text ∷ texts) h = cc

pub joined_parts : (byte : ℕ) (text : List ℕ) → byte ∷ text ≡ joined (λ part. byte ∷ part) (parts byte text)
joined_parts byte [] = refl
joined_parts byte (x ∷ xs) = elim (cases_Bool (x == byte)) [
  | inl hit ↦
      let same : x ≡ byte = eqb-true x byte hit in
      rw hit (rw same (ap (λ (t : List ℕ). byte ∷ t) (joined_parts byte xs)))
  | inr other ↦ rw other (onto byte x xs (parts byte xs) (joined_parts byte xs))
]

-- ---- numbers

tells : IsDigitsTest (λ ds. list_all is_ascii_digit ds ≡ true)
tells = record {
  empty = refl;
  parts = λ c cs h. elim (cases_Bool (is_ascii_digit c)) [
    | inl hit ↦ (grind (arith, nat_tests), cc (rw hit at h))
    | inr other ↦ absurd (cc (rw other at h))
  ];
  more = λ c cs k h. let digit : is_ascii_digit c ≡ true = grind (arith, nat_tests) in rw (digit, h) refl;
}

folds : FoldsDigits (fold value_after)
folds = record { empty = λ n. refl; more = λ n c cs k. refl }

pub numerals : IsNumeralModel (λ ds. list_all is_ascii_digit ds ≡ true) value_of
numerals = numerals_by_fold _ tells (fold value_after) folds
