use Rattle.std.proofs.Common.{◌≡◌, drop}
use Rattle.op_constraints.specs.Meets.{at}
use Rattle.derivation_check.specs.Denials.{denied_at}
use Rattle.derivation_check.proofs.denials.first_denied.Given as goal

abbrev pub invariant-loop-step : goal.invariant-loop-step
invariant-loop-step l = denied_at l.members (at l.set) l.steps ≡ denied_at l.members (at l.set) (drop l.step-index l.steps)
