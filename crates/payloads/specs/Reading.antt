-- What a reader of the code answers: what the form reads, or want of memory at any time.
use Rattle.std.specs.Prelude.{◌≡◌, List, ◌++◌, true, ℕ, Option, Some, None, Result, Ok, Err}
use Rattle.std.specs.Borrow.{Bor}
use Rattle.payloads.specs.Form.{Form}
use Rattle.payloads.specs.declared.stored.ReadFault.{ReadFault}
use Rattle.payloads.specs.declared.stored.ReadFault.TheVariants.{NoSpelling, Memory}

-- the value and the bytes behind it, exactly where there is one
abbrev pub Reads : {A : Type 0} → Option (A × List ℕ) → Result (A × Bor (List ℕ)) ReadFault → Type 0
Reads wanted (Ok x) = wanted ≡ Some (x.0, x.1.now)
Reads wanted (Err NoSpelling) = wanted ≡ None
Reads wanted (Err Memory) = Unit {0}

-- the same where bytes are lent in the place of a copy
abbrev pub Lends : Option (List ℕ × List ℕ) → Result (Bor (List ℕ) × Bor (List ℕ)) ReadFault → Type 0
Lends wanted (Ok x) = wanted ≡ Some (x.0.now, x.1.now)
Lends wanted (Err NoSpelling) = wanted ≡ None
Lends wanted (Err Memory) = Unit {0}

-- the value's spelling stands at the end of what was there
pub record Appends {A : Type 0} (form : Form A) (x : A) (old new : List ℕ) : Type 0 where
  pub fits : form.fits x ≡ true
  pub bytes : new ≡ old ++ form.spell x
