-- The reading of one operator and one version.
use Rattle.std.proofs.Common.{◌≡◌, ◌+◌, ◌<◌, ◌==◌, ℕ, List, [], ◌∷◌, ◌++◌, Bool, true, false, Some, Result, Ok, Err, length, take, drop, refl, sym, ap, ◌∙◌, arith, inl, inr, append-nil}
use Rattle.std.specs.Prelude.{◌&&◌, ◌||◌, ◌⊎◌, codes, not}
use Rattle.std.proofs.lemmas.Bool.{cases_Bool, eqb-true}
use Rattle.std.proofs.lemmas.Bool.Decides.{nat_tests}
use Rattle.std.proofs.lemmas.List.{drop_at, take_at, length-append}
use Rattle.std.proofs.lemmas.List.Folds.{list_all-append}
use Rattle.std.proofs.Math.Seq.{drop-length, take-length}
use Rattle.std.specs.List.{list_all, prefix_len, take_while}
use Rattle.std.specs.Result.{result_ok}
use Rattle.semver.specs.OrderLaws.{same_text}
use Rattle.semver.specs.Parse.{Parts, version_parts}
use Rattle.semver.specs.declared.error.Error.{Error}
use Rattle.version_ranges.specs.Reading.{after_conditions, alternative_at, alternatives, and_others, and_then, condition_at, conditions, ends, operator_run, reading, spaces, word_run, word_start}
use Rattle.version_ranges.specs.Terms.{Exact, Term}
use Rattle.version_ranges.specs.Words.{is_operator_byte, is_space, is_text, is_word_byte, operator_of, version_of}
use Rattle.version_ranges.specs.declared.condition.Operator.{Operator}
use Rattle.version_ranges.proofs.Joined.{by_pieces, condition_of}
use Rattle.version_ranges.proofs.Loops.{at_condition, at_end}
use Rattle.version_ranges.proofs.Turns.{alternatives_by_turn}
use Rattle.version_ranges.proofs.Written.{AllWritten, is_version_byte, version_bytes}

-- ---- the bytes of an operator

or_true : (a b : Bool) → (a || b) ≡ true → (a ≡ true) ⊎ (b ≡ true)
or_true true b h = inl refl
or_true false b h = inr h

of_text : (text run : List ℕ) → list_all is_operator_byte text ≡ true → is_text text run ≡ true → list_all is_operator_byte run ≡ true
of_text text run h e = rw (same_text run text e) h

of_two_texts : (s t run : List ℕ) → list_all is_operator_byte s ≡ true → list_all is_operator_byte t ≡ true → (is_text s run || is_text t run) ≡ true → list_all is_operator_byte run ≡ true
of_two_texts s t run h k e = elim (or_true (is_text s run) (is_text t run) e) [
  | inl a ↦ of_text s run h a
  | inr a ↦ of_text t run k a
]

of_three_texts : (s t u run : List ℕ) → list_all is_operator_byte s ≡ true → list_all is_operator_byte t ≡ true → list_all is_operator_byte u ≡ true
    → (is_text s run || is_text t run || is_text u run) ≡ true → list_all is_operator_byte run ≡ true
of_three_texts s t u run h k l e = elim (or_true (is_text s run || is_text t run) (is_text u run) e) [
  | inl a ↦ of_two_texts s t run h k a
  | inr a ↦ of_text u run l a
]

pub operator_bytes : (run : List ℕ) (operator : Operator) → operator_of run ≡ Some operator → list_all is_operator_byte run ≡ true
operator_bytes run operator h = elim (cases_Bool (is_text [] run || is_text (codes "=") run || is_text (codes "==") run)) [
  | inl e ↦ of_three_texts [] (codes "=") (codes "==") run refl refl refl e
  | inr a ↦ elim (cases_Bool (is_text (codes "!") run || is_text (codes "!=") run)) [
    | inl e ↦ of_two_texts (codes "!") (codes "!=") run refl refl e
    | inr b ↦ elim (cases_Bool (is_text (codes "<") run)) [
      | inl e ↦ of_text (codes "<") run refl e
      | inr c ↦ elim (cases_Bool (is_text (codes "<=") run)) [
        | inl e ↦ of_text (codes "<=") run refl e
        | inr d ↦ elim (cases_Bool (is_text (codes ">") run)) [
          | inl e ↦ of_text (codes ">") run refl e
          | inr f ↦ elim (cases_Bool (is_text (codes ">=") run)) [
            | inl e ↦ of_text (codes ">=") run refl e
            | inr g ↦ cc (rw (a, b, c, d, f, g) at h)
          ]
        ]
      ]
    ]
  ]
]

-- ---- the bytes of a version

written : (word : List ℕ) (bound : Parts) (r : Result Parts Error) → version_parts word ≡ r → result_ok r ≡ Some bound → AllWritten word
written word bound (Ok p) e h = version_bytes word p e
written word bound (Err fault) e h = cc h

pub all_written : (word : List ℕ) (bound : Parts) → version_of word ≡ Some bound → AllWritten word
unfolding version_of
all_written word bound h = written word bound (version_parts word) refl h

-- the empty text is no version
pub not_empty : (word : List ℕ) (bound : Parts) → version_of word ≡ Some bound → 0 < length word
unfolding version_of
not_empty [] bound h = cc h
not_empty (byte ∷ word) bound h = omega arith

-- ---- runs

prefix_all : (p : ℕ → Bool) (xs ys : List ℕ) → list_all p xs ≡ true → prefix_len p (xs ++ ys) ≡ length xs + prefix_len p ys
prefix_all p [] ys h = omega arith
prefix_all p (x ∷ xs) ys h = elim (cases_Bool (p x)) [
  | inl hit ↦ let rest = prefix_all p xs ys (rw hit at h) in rw hit (omega (arith, rest))
  | inr other ↦ cc (rw other at h)
]

-- a test that passes only where another does
all_imply : (p q : ℕ → Bool) → ((x : ℕ) → p x ≡ true → q x ≡ true) → (xs : List ℕ) → list_all p xs ≡ true → list_all q xs ≡ true
all_imply p q k [] h = refl
all_imply p q k (x ∷ xs) h = elim (cases_Bool (p x)) [
  | inl hit ↦ rw (k x hit) (all_imply p q k xs (rw hit at h))
  | inr other ↦ cc (rw other at h)
]

version_is_word : (b : ℕ) → is_version_byte b ≡ true → is_word_byte b ≡ true
version_is_word b h = grind (arith, nat_tests)

first_is : (p : ℕ → Bool) (xs : List ℕ) → 0 < length xs → list_all (λ x. not (p x)) xs ≡ true → prefix_len p xs ≡ 0
first_is p [] l h = absurd (omega arith)
first_is p (x ∷ xs) l h = elim (cases_Bool (p x)) [
  | inl hit ↦ cc (rw hit at h)
  | inr other ↦ rw other refl
]

-- bytes that are neither a space nor a bar
abbrev is_solid : ℕ → Bool
is_solid byte = not (is_space byte) && not (byte == 124)

solid_operator : (b : ℕ) → is_operator_byte b ≡ true → is_solid b ≡ true
solid_operator b h = grind (arith, nat_tests)

solid_version : (b : ℕ) → is_version_byte b ≡ true → is_solid b ≡ true
solid_version b h = grind (arith, nat_tests)

no_space : (b : ℕ) → is_solid b ≡ true → not (is_space b) ≡ true
no_space b h = grind (arith, nat_tests)

solid_goes_on : (text : List ℕ) → 0 < length text → list_all is_solid text ≡ true → ends text ≡ false
solid_goes_on [] l h = absurd (omega arith)
solid_goes_on (x ∷ []) l h = refl
solid_goes_on (x ∷ y ∷ rest) l h = elim (cases_Bool (x == 124)) [
  | inl hit ↦ let byte : x ≡ 124 = eqb-true x 124 hit in cc (rw byte at h)
  | inr other ↦ rw other refl
]

not_operator : (b : ℕ) → is_version_byte b ≡ true → not (is_operator_byte b) ≡ true
not_operator b h = grind (arith, nat_tests)

not_space : (b : ℕ) → is_version_byte b ≡ true → not (is_space b) ≡ true
not_space b h = grind (arith, nat_tests)

-- ---- one condition

-- what an operator and a version say
abbrev pub plain_term : Operator → Parts → Term
plain_term operator bound = record { operator = operator; bound = Exact bound }

plain_condition : (place : ℕ) (run word : List ℕ) (operator : Operator) (bound : Parts) → operator_of run ≡ Some operator → version_of word ≡ Some bound
    → condition_at place (run ++ word) ≡ Ok (plain_term operator bound, length run + length word)
unfolding condition_of
plain_condition place run word operator bound h k =
    let bytes = all_written word bound k in
    let some = not_empty word bound k in
    let marks = operator_bytes run operator h in
    let no_mark : prefix_len is_operator_byte word ≡ 0 = first_is is_operator_byte word some (all_imply is_version_byte (λ x. not (is_operator_byte x)) not_operator word bytes) in
    let no_blank : spaces word ≡ 0 = first_is is_space word some (all_imply is_version_byte (λ x. not (is_space x)) not_space word bytes) in
    let size : prefix_len is_operator_byte (run ++ word) ≡ length run = prefix_all is_operator_byte run word marks ∙ rw no_mark (omega arith) in
    let front : operator_run (run ++ word) ≡ run = ap (λ n. take n (run ++ word)) size ∙ take_at run word (length run) refl in
    let behind : drop (length run) (run ++ word) ≡ word = drop_at run word (length run) refl in
    let start : word_start (run ++ word) ≡ length run = ap (λ r. length r + spaces (drop (length r) (run ++ word))) front ∙ ap (λ t. length run + spaces t) behind ∙ rw no_blank (omega arith) in
    let whole : prefix_len is_word_byte word ≡ length word = ap (prefix_len is_word_byte) (sym (append-nil word)) ∙ prefix_all is_word_byte word [] (all_imply is_version_byte is_word_byte version_is_word word bytes) ∙ omega arith in
    let last : word_run (run ++ word) ≡ word = ap (λ n. take_while is_word_byte (drop n (run ++ word))) start ∙ ap (take_while is_word_byte) behind ∙ ap (λ n. take n word) whole ∙ take-length word in
    by_pieces place (run ++ word)
    ∙ ap (λ r. condition_of place r (word_start (run ++ word)) (word_run (run ++ word))) front
    ∙ ap (λ n. condition_of place run n (word_run (run ++ word))) start
    ∙ ap (λ w. condition_of place run (length run) w) last
    ∙ rw (h, k) refl

-- ---- a range of one condition

plain_conditions : (place : ℕ) (text : List ℕ) (term : Term) → 0 < length text → list_all is_solid text ≡ true → condition_at place text ≡ Ok (term, length text)
    → conditions place text ≡ Ok (term ∷ [], length text)
plain_conditions place text term some solid there =
    let no_blank : spaces text ≡ 0 = first_is is_space text some (all_imply is_solid (λ x. not (is_space x)) no_space text solid) in
    let on : ends (drop (spaces text) text) ≡ false = rw no_blank (solid_goes_on text some solid) in
    let zero' : place + 0 ≡ place = omega arith in
    let here : condition_at (place + spaces text) (drop (spaces text) text) ≡ Ok (term, length text) = rw (no_blank, zero') there in
    let step = at_condition place text (Ok (term, length text)) on here in
    let count : spaces text + length text ≡ length text = rw no_blank (omega arith) in
    let nothing : drop (length text) text ≡ [] = drop-length text in
    let none : conditions (place + length text) [] ≡ Ok ([], 0) = at_end (place + length text) [] refl in
    let all : after_conditions (term ∷ []) (length text) (conditions (place + length text) (drop (length text) text)) ≡ Ok (term ∷ [], length text + 0) = rw nothing (ap (after_conditions (term ∷ []) (length text)) none) in
    let same : length text + 0 ≡ length text = omega arith in
    rw count at step ∙ all ∙ ap (λ n. Ok (term ∷ [], n)) same

plain_alternatives : (place : ℕ) (text : List ℕ) (term : Term) → conditions place text ≡ Ok (term ∷ [], length text) → alternatives place text ≡ Ok ((term ∷ []) ∷ [])
plain_alternatives place text term h =
    let one : alternative_at place text ≡ Ok (term ∷ [], length text) = rw h refl in
    alternatives_by_turn place text
    ∙ ap (λ r. and_then r (λ read. and_others (alternatives (place + (read.1 + 2))) read.0 (drop read.1 text))) one
    ∙ ap (and_others (alternatives (place + (length text + 2))) (term ∷ [])) (drop-length text)

pub plain_reading : (run word : List ℕ) (operator : Operator) (bound : Parts) → operator_of run ≡ Some operator → version_of word ≡ Some bound
    → reading (run ++ word) ≡ Ok ((plain_term operator bound ∷ []) ∷ [])
plain_reading run word operator bound h k =
    let bytes = all_written word bound k in
    let some = not_empty word bound k in
    let size = length-append run word in
    let marks = all_imply is_operator_byte is_solid solid_operator run (operator_bytes run operator h) in
    let solid : list_all is_solid (run ++ word) ≡ true = rw (list_all-append, marks, all_imply is_version_byte is_solid solid_version word bytes) refl in
    let there : condition_at 0 (run ++ word) ≡ Ok (plain_term operator bound, length (run ++ word)) = rw size (plain_condition 0 run word operator bound h k) in
    plain_alternatives 0 (run ++ word) (plain_term operator bound)
    (plain_conditions 0 (run ++ word) (plain_term operator bound) (omega arith) solid there)
