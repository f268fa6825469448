use Rattle.std.proofs.Common.{◌≡◌, drop}
use Rattle.op_constraints.specs.Meets.{at}
use Rattle.op_constraints.specs.Walks.{passed, dependencies}
use Rattle.preference_search.proofs.lists.first_list.Given as goal

abbrev pub invariant-loop-place : goal.invariant-loop-place
invariant-loop-place l = passed (at l.bits) (dependencies l.constraints) ≡ passed (at l.bits) (dependencies (drop l.place l.constraints))
