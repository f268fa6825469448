use Rattle.std.proofs.Common.{◌≡◌, false, take}
use Rattle.std.specs.List.{list_any}
use Rattle.op_constraints.specs.Meets.{at}
use Rattle.preference_search.proofs.lists.has_any.Given as goal

abbrev pub invariant-loop-member : goal.invariant-loop-member
invariant-loop-member l = list_any (at l.bits) (take l.member-index l.members) ≡ false
