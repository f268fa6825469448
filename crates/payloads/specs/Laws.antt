-- What makes a form one: what is spelled is read again, whatever follows, and what is read is spelled so.
use Rattle.std.specs.Prelude.{◌≡◌, ◌<◌, true, ℕ, List, ◌++◌, Some, slice_index}
use Rattle.payloads.specs.Form.{Form}

abbrev pub AreBytes : List ℕ → Type 0
AreBytes bytes = (i : ℕ) → slice_index bytes i < 256

pub record IsForm {A : Type 0} (form : Form A) : Type 0 where
  pub again : (x : A) (rest : List ℕ) → form.fits x ≡ true → form.read (form.spell x ++ rest) ≡ Some (x, rest)
  pub only : (bytes : List ℕ) (x : A) (rest : List ℕ) → AreBytes bytes → form.read bytes ≡ Some (x, rest) → (form.fits x ≡ true) × (bytes ≡ form.spell x ++ rest)
