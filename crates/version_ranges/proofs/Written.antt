-- The bytes of a version.
use Rattle.std.proofs.Common.{◌≡◌, ◌+◌, ◌<◌, ◌%◌, ◌^◌, ◌==◌, ℕ, zero, suc, List, [], ◌∷◌, ◌++◌, Bool, true, false, Ok, Err, None, refl, arith, inl, inr, IsUtf8}
use Rattle.std.specs.Prelude.{◌&&◌, ◌||◌, Option, Result}
use Rattle.std.proofs.lemmas.Bool.{cases_Bool, eqb-true}
use Rattle.std.proofs.lemmas.Bool.Decides.{nat_tests}
use Rattle.std.proofs.lemmas.List.Folds.{list_all-append}
use Rattle.std.proofs.lemmas.Fmt.{decimal_by_steps}
use Rattle.std.proofs.lemmas.Str.{IsUtf8-from_ascii}
use Rattle.std.specs.Fmt.{decimal}
use Rattle.std.specs.List.{list_all}
use Rattle.std.specs.Result.{result_ok}
use Rattle.std.specs.Str.{IsAscii}
use Rattle.semver.specs.Grammar.{IsValid, is_build, is_build_identifier, is_identifier_byte, is_pre_identifier, is_pre_release}
use Rattle.semver.specs.Identifiers.{marked, parts_text}
use Rattle.semver.specs.Order.{parts}
use Rattle.semver.specs.OrderLaws.{parts-shape}
use Rattle.semver.specs.Parse.{Parts, version_parts}
use Rattle.semver.proofs.Grammar.{version_parts-sound}
use Rattle.semver.specs.declared.error.Error.{Error}
use Rattle.version_ranges.specs.Words.{version_of}

-- a byte of a version: of an identifier, a dot or a plus
abbrev pub is_version_byte : ℕ → Bool
is_version_byte byte = is_identifier_byte byte || byte == 46 || byte == 43

-- all bytes of the text may stand in a version
abbrev pub AllWritten : List ℕ → Type 0
AllWritten text = list_all is_version_byte text ≡ true

both : (a b : Bool) → a ≡ true → b ≡ true → (a && b) ≡ true
both a b e f = rw (e, f) refl

and_first : (a b : Bool) → (a && b) ≡ true → a ≡ true
and_first true b e = refl
and_first false b e = cc e

and_second : (a b : Bool) → (a && b) ≡ true → b ≡ true
and_second true b e = e
and_second false b e = cc e

regroup : (a b c : Bool) → ((a && b) && c) ≡ true → (a ≡ true) × ((b && c) ≡ true)
regroup true b c e = (refl, e)
regroup false b c e = cc e

joined : (xs ys : List ℕ) → AllWritten xs → AllWritten ys → AllWritten (xs ++ ys)
joined xs ys e f = rw list_all-append (both _ _ e f)

-- one byte before others
led : (b : ℕ) (ys : List ℕ) → is_version_byte b ≡ true → AllWritten ys → AllWritten (b ∷ ys)
led b ys e f = both _ _ e f

of_digit : (n : ℕ) → n < 10 → is_version_byte (48 + n) ≡ true
of_digit n h = grind (arith, nat_tests)

of_number : (n : ℕ) → n < 2 ^ 64 → AllWritten (decimal n)
of_number n small = decimal_by_steps (λ m ds. AllWritten ds)
    (λ m l. led (48 + m) [] (of_digit m l) refl)
    (λ m ds l h. joined ds ((48 + m % 10) ∷ []) h (led (48 + m % 10) [] (of_digit (m % 10) (omega arith)) refl))
    n small

of_identifier : (b : ℕ) → is_identifier_byte b ≡ true → is_version_byte b ≡ true
of_identifier b e = rw e refl

-- each of the texts has bytes of identifiers alone
abbrev pub AllIdentifiers : List (List ℕ) → Type 0
AllIdentifiers texts = list_all (list_all is_identifier_byte) texts ≡ true

of_parts : (text : List ℕ) → AllIdentifiers (parts text) → AllWritten text
of_parts [] h = refl
of_parts (b ∷ rest) h = elim (cases_Bool (b == 46)) [
  | inl dot ↦
      let byte : b ≡ 46 = eqb-true b 46 dot in
      rw byte (of_parts rest (rw dot at h))
  | inr other ↦
      let shape = parts-shape rest in
      let all = rw (other, shape.2) at h in
      let pieces = regroup (is_identifier_byte b) (list_all is_identifier_byte shape.0) (list_all (list_all is_identifier_byte) shape.1) all in
      let more : AllIdentifiers (parts rest) = rw shape.2 pieces.1 in
      led b rest (of_identifier b pieces.0) (of_parts rest more)
]

of_pre_identifiers : (texts : List (List ℕ)) → list_all is_pre_identifier texts ≡ true → AllIdentifiers texts
of_pre_identifiers [] h = refl
of_pre_identifiers (text ∷ texts) h =
    both _ _ (and_second _ _ (and_first _ _ (and_first _ _ h))) (of_pre_identifiers texts (and_second _ _ h))

of_build_identifiers : (texts : List (List ℕ)) → list_all is_build_identifier texts ≡ true → AllIdentifiers texts
of_build_identifiers [] h = refl
of_build_identifiers (text ∷ texts) h =
    both _ _ (and_second _ _ (and_first _ _ h)) (of_build_identifiers texts (and_second _ _ h))

of_pre : (text : List ℕ) → is_pre_release text ≡ true → AllWritten (marked 45 text)
of_pre [] h = refl
of_pre (b ∷ rest) h = led 45 (b ∷ rest) refl (of_parts (b ∷ rest) (of_pre_identifiers (parts (b ∷ rest)) h))

of_build : (text : List ℕ) → is_build text ≡ true → AllWritten (marked 43 text)
of_build [] h = refl
of_build (b ∷ rest) h = led 43 (b ∷ rest) refl (of_parts (b ∷ rest) (of_build_identifiers (parts (b ∷ rest)) h))

of_valid : (p : Parts) → IsValid p → AllWritten (parts_text p)
of_valid p v =
    let tail : AllWritten (marked 45 p.3 ++ marked 43 p.4) = joined (marked 45 p.3) (marked 43 p.4) (of_pre p.3 v.3) (of_build p.4 v.4) in
    let from_patch : AllWritten (decimal p.2 ++ (marked 45 p.3 ++ marked 43 p.4)) = joined (decimal p.2) (marked 45 p.3 ++ marked 43 p.4) (of_number p.2 v.2) tail in
    let from_minor : AllWritten (decimal p.1 ++ 46 ∷ (decimal p.2 ++ (marked 45 p.3 ++ marked 43 p.4))) =
    joined (decimal p.1) (46 ∷ (decimal p.2 ++ (marked 45 p.3 ++ marked 43 p.4))) (of_number p.1 v.1) (led 46 (decimal p.2 ++ (marked 45 p.3 ++ marked 43 p.4)) refl from_patch) in
    joined (decimal p.0) (46 ∷ (decimal p.1 ++ 46 ∷ (decimal p.2 ++ (marked 45 p.3 ++ marked 43 p.4)))) (of_number p.0 v.0)
    (led 46 (decimal p.1 ++ 46 ∷ (decimal p.2 ++ (marked 45 p.3 ++ marked 43 p.4))) refl from_minor)

pub version_bytes : (text : List ℕ) (p : Parts) → version_parts text ≡ Ok p → AllWritten text
version_bytes text p h =
    let sound = version_parts-sound text p h in
    rw (← sound.0) (of_valid p sound.1)

ascii_byte : (b : ℕ) → is_version_byte b ≡ true → b < 128
ascii_byte b h = grind (arith, nat_tests)

ascii_bytes : (text : List ℕ) → AllWritten text → IsAscii text
ascii_bytes [] h i = omega arith
ascii_bytes (b ∷ rest) h zero = ascii_byte b (and_first _ _ h)
ascii_bytes (b ∷ rest) h (suc i) = ascii_bytes rest (and_second _ _ h) i

by_reading : (text : List ℕ) (r : Result Parts Error) → (IsUtf8 text → ⊥) → version_parts text ≡ r → ◌≡◌ {A = Option Parts} None (result_ok r)
by_reading text (Ok p) h e = absurd (h (IsUtf8-from_ascii text (ascii_bytes text (version_bytes text p e))))
by_reading text (Err fault) h e = refl

-- bytes that are no text are no version
pub not_text : (text : List ℕ) → (IsUtf8 text → ⊥) → None ≡ version_of text
unfolding version_of
not_text text h = by_reading text (version_parts text) h refl
