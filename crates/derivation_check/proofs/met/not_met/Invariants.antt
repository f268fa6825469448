use Rattle.std.proofs.Common.{◌≡◌, drop}
use Rattle.op_constraints.specs.Meets.{at}
use Rattle.derivation_check.specs.Faults.{met_fault}
use Rattle.derivation_check.proofs.met.not_met.Given as goal

abbrev pub invariant-loop-v : goal.invariant-loop-v
invariant-loop-v l = met_fault (at l.set) 0 l.problem ≡ met_fault (at l.set) l.v (drop l.v l.problem)
