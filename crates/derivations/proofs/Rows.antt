-- Lines that begin alike, read one after the other.
use Rattle.std.proofs.Common.{◌≡◌, ◌+◌, ℕ, List, [], ◌∷◌, ◌++◌, Result, Ok, Err, refl, ap}
use Rattle.derivations.specs.Reading.{line_at, lines, lines_after, item}
use Rattle.derivations.specs.declared.reading.cert_text.CertText.{CertText}
use Rattle.derivations.specs.declared.reading.tokens.LineFault.{LineFault}

-- these items before the others
abbrev pub with_front : {A B : Type 0} → List A → Result (List A × B) CertText → Result (List A × B) CertText
with_front items (Ok others) = Ok (items ++ others.0, others.1)
with_front items (Err fault) = Err fault

abbrev Next : Type 0
Next = Result (List ℕ × List (List ℕ)) CertText

module _ {A : Type 0} (words : List ℕ) (read : List ℕ → Result A LineFault) where
  -- a line is there
  pub one_line : (number : ℕ) (texts : List (List ℕ)) (line : List ℕ) (more : List (List ℕ)) → ◌≡◌ {A = Next} (Ok (line, more)) (line_at texts)
      → lines words read number texts ≡ lines_after (item words read number line) texts (lines words read (number + 1) more)
  one_line number [] line more h = absurd cc
  one_line number (last ∷ []) line more h = absurd cc
  one_line number (text ∷ next ∷ others) line more h =
      let same : ◌≡◌ {A = List ℕ × List (List ℕ)} (line, more) (text, next ∷ others) = cc in
      let first : line ≡ text = ap (λ (x : List ℕ × List (List ℕ)). x.0) same in
      let rest : more ≡ next ∷ others = ap (λ (x : List ℕ × List (List ℕ)). x.1) same in
      rw (first, rest) refl
