use Rattle.std.proofs.Common.{◌≡◌, ◌≤◌, take}
use Rattle.std.specs.List.{count_by}
use Rattle.op_constraints.specs.Meets.{at}
use Rattle.op_constraints.proofs.sets.count.Given as goal

abbrev pub invariant-loop-member : goal.invariant-loop-member
invariant-loop-member l = (l.count ≡ count_by (at l.set) (take l.member-index l.members)) × (l.count ≤ l.member-index)
