use Rattle.std.proofs.Common.{◌≡◌, drop}
use Rattle.op_constraints.specs.Meets.{at}
use Rattle.derivation_check.specs.Faults.{broken_of}
use Rattle.derivation_check.proofs.met.broken_constraint.Given as goal

abbrev pub invariant-loop-place : goal.invariant-loop-place
invariant-loop-place l = broken_of (at l.set) l.var 0 l.constraints ≡ broken_of (at l.set) l.var l.place (drop l.place l.constraints)
