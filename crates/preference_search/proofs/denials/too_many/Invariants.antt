use Rattle.std.proofs.Common.{◌≡◌, ◌≤◌, take, length}
use Rattle.std.specs.List.{filter}
use Rattle.op_constraints.specs.Meets.{at}
use Rattle.preference_search.proofs.denials.too_many.Given as goal

abbrev pub invariant-loop-member : goal.invariant-loop-member
invariant-loop-member l = record {
  named : l.named.items ≡ filter (at l.bits) (take l.member-index l.members);
  few : length l.named.items ≤ l.most;
}
