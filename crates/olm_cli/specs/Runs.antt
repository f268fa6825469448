-- What a run of a command comes to, and what a call may do beside it.
use Rattle.std.specs.Prelude.{◌≡◌, ℕ, not, List, [], Option, Some, Result, Ok, Err}
use Rattle.olm_base.specs.Outcome.{Ends}
use Rattle.olm_io.specs.Outside.{Puts}
use Rattle.olm_cli.specs.declared.causes.Cause.{Cause}
use Rattle.olm_cli.specs.Causes.{is_free_end}

-- What stands on `out` after a run, and the cause for which it doesn't end with status 0.
pub record Ran : Type 0 where
  pub output : List ℕ
  pub end : Option Cause

-- a run that ends before anything is printed
abbrev pub stopped : Cause → Ran
stopped cause = record { output = []; end = Some cause }

-- A step whose cause stops the run, and then what its value permits.
abbrev pub After : {T : Type 0} → Result T Cause → (T → Ran → Type 0) → Ran → Type 0
After (Err cause) Permits ran = ran ≡ stopped cause
After (Ok value) Permits ran = Permits value ran

-- The same of a step for which there is something that holds.
abbrev pub AfterHeld : {T : Type 0} → (Result T Cause → Type 0) → (T → Ran → Type 0) → Ran → Type 0
AfterHeld {T} Holds Permits ran = (step : Result T Cause) × Holds step × After step Permits ran

-- A call ended and put what a permitted run does. Or it ended for a fault of the outside or for want of memory, which may come at any time, and put a front of a permitted output.
abbrev pub Comes : (Ran → Type 0) → Option Cause → Option (List ℕ) → Option (List ℕ) → Type 0
Comes Permits end old new = (ran : Ran) × Permits ran × Ends is_free_end ran.end end × Puts (not (is_free_end end)) old new ran.output
