-- A failure has its cause also where the count is looked at earlier.
use Rattle.std.proofs.Common.{◌≤◌, ℕ, arith}
use Rattle.olm_io.specs.Outside.{HasCause}

pub cause_behind : {Failed : Type 0} (before middle now : ℕ) → before ≤ middle → HasCause middle now Failed → HasCause before now Failed
cause_behind before middle now up cause = record {
  later = omega (arith, up, cause.later);
  rose = λ failed. omega (arith, up, cause.rose failed);
}
