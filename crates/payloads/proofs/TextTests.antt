-- The test of UTF-8 as a fact, and what is appended of a value that passes a test.
use Rattle.std.proofs.Common.{◌≡◌, ◌++◌, Bool, true, false, ℕ, List, refl, ap, ◌∙◌, sym, Result, Ok, Err}
use Rattle.std.specs.Prelude.{OnOk}
use Rattle.std.specs.Str.{IsUtf8, is_utf8}
use Rattle.std.proofs.lemmas.Bool.{and_from}
use Rattle.std.proofs.lemmas.Str.{IsUtf8-from_is_utf8}
use Rattle.payloads.specs.Form.{Form, passing}
use Rattle.payloads.specs.Reading.{Appends}

pub is_utf8_false : (bytes : List ℕ) → (IsUtf8 bytes → ⊥) → is_utf8 bytes ≡ false
is_utf8_false bytes not_utf8 = by_test (is_utf8 bytes) refl
  where
    by_test : (b : Bool) → is_utf8 bytes ≡ b → is_utf8 bytes ≡ false
    by_test true is = absurd (not_utf8 (IsUtf8-from_is_utf8 bytes is))
    by_test false is = is

pub appends_passing : {A T E : Type 0} (test : A → Bool) (form : Form A) (x y : A) (old new : List ℕ) (r : Result T E) → x ≡ y → test x ≡ true
    → OnOk r (Appends form x old new) → OnOk r (Appends (passing test form) y old new)
appends_passing test form x y old new (Ok u) same passes h = record {
  fits = and_from (form.fits y) (test y) (ap form.fits (sym same) ∙ h.fits) (ap test (sym same) ∙ passes);
  bytes = h.bytes ∙ ap (λ z. old ++ form.spell z) same;
}
appends_passing test form x y old new (Err e) same passes h = h
