use Rattle.std.proofs.Common.{◌≡◌, map}
use Rattle.op_constraints.specs.Kept.{kept}
use Rattle.op_constraints.proofs.problems.keep_all.Given as goal

abbrev pub invariant-loop-constraint : goal.invariant-loop-constraint
invariant-loop-constraint l = l.all.items ≡ map kept l.yielded
