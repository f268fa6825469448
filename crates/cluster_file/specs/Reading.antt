-- What a reader lends of the bytes that it reads.
use Rattle.std.specs.Prelude.{◌≡◌, List, ℕ, Option, Some, None}
use Rattle.std.specs.Borrow.{Bor}

-- a value and the bytes behind it, exactly where there is one
abbrev pub Lends : {A : Type 0} → Option (A × List ℕ) → Option (A × Bor (List ℕ)) → Type 0
Lends wanted (Some r) = wanted ≡ Some (r.0, r.1.now)
Lends wanted None = wanted ≡ None

-- the same where the value is bytes, which are lent too
abbrev pub LendsBytes : Option (List ℕ × List ℕ) → Option (Bor (List ℕ) × Bor (List ℕ)) → Type 0
LendsBytes wanted (Some p) = wanted ≡ Some (p.0.now, p.1.now)
LendsBytes wanted None = wanted ≡ None
