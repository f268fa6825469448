use Rattle.std.proofs.Common.{◌≡◌, drop}
use Rattle.install_plan.specs.Plans.{repeated}
use Rattle.install_plan.proofs.keeping.same_key_fault.Given as goal

abbrev pub invariant-loop-place : goal.invariant-loop-place
invariant-loop-place l = repeated l.steps l.place (drop l.place l.steps) ≡ repeated l.steps 0 l.steps
