-- Faults of several calls.
use Rattle.std.proofs.Common.{◌≡◌, ℕ, arith}
use Rattle.olm_io.specs.Outside.{HasCause}

pub later_cause : (a b c : ℕ) (P Q : Type 0) → HasCause a b P → HasCause b c Q → HasCause a c Q
later_cause a b c P Q first second = record { later = omega (arith, first.later, second.later); rose = λ q. omega (arith, first.later, second.rose q) }

pub same_cause : (a b : ℕ) (P Q : Type 0) → (Q → P) → HasCause a b P → HasCause a b Q
same_cause a b P Q from first = record { later = first.later; rose = λ q. first.rose (from q) }

-- a call that isn't counted as failed behind one that may have been
pub earlier_cause : (a b c : ℕ) (P Q R : Type 0) → (R → P) → HasCause a b P → HasCause b c Q → HasCause a c R
earlier_cause a b c P Q R from first second = record { later = omega (arith, first.later, second.later); rose = λ r. omega (arith, first.rose (from r), second.later) }
