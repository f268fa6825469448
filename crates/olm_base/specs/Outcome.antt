-- Exact answers. A definition gives the wanted answer, and a call gives that one, unless it gives one of the free errors, which may come at any time.
use Rattle.std.specs.Prelude.{◌≡◌, Bool, false, Result, Ok, Err}

-- The answer is the wanted one: each value and each error that comes is the definition's, free errors aside.
abbrev pub Gives : {T E : Type 0} → (E → Bool) → Result T E → Result T E → Type 0
Gives is_free wanted (Ok value) = wanted ≡ Ok value
Gives is_free wanted (Err error) = is_free error ≡ false → wanted ≡ Err error

-- The end is the wanted one, free ones aside.
abbrev pub Ends : {E : Type 0} → (E → Bool) → E → E → Type 0
Ends is_free wanted end = is_free end ≡ false → wanted ≡ end
