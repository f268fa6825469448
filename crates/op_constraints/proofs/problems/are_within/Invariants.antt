use Rattle.std.proofs.Common.{◌≡◌, true, take}
use Rattle.std.specs.List.{list_all}
use Rattle.op_constraints.specs.Tests.{is_within}
use Rattle.op_constraints.proofs.problems.are_within.Given as goal

abbrev pub invariant-loop-constraint : goal.invariant-loop-constraint
invariant-loop-constraint l = list_all (λ c. is_within l.count c) (take l.constraint-index l.constraints) ≡ true
