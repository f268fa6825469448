use Rattle.op_constraints.specs.WalkInvariant.{Looks}
use Rattle.op_constraints.proofs.first.Trail.choice.Given as goal

abbrev pub invariant-loop-var : goal.invariant-loop-var
invariant-loop-var l = Looks l.self.problem.now l.self.chosen.items l.var-index 0
