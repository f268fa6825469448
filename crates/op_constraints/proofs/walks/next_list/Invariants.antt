use Rattle.std.proofs.Common.{◌≡◌, drop, length, ◌-◌}
use Rattle.op_constraints.specs.Meets.{at}
use Rattle.op_constraints.specs.Walks.{passed, dependencies}
use Rattle.op_constraints.proofs.walks.next_list.Given as goal

abbrev pub invariant-loop-i : goal.invariant-loop-i
invariant-loop-i l = passed (at l.set) (dependencies (drop l.fn.place l.constraints)) ≡ passed (at l.set) (dependencies (drop l.i l.constraints))

abbrev pub decreases-loop-i : goal.decreases-loop-i
decreases-loop-i l = length l.constraints - l.i
