use Rattle.std.proofs.Common.{◌≡◌, drop}
use Rattle.op_constraints.specs.Meets.{at}
use Rattle.op_constraints.specs.Walks.{passed, agenda}
use Rattle.preference_search.proofs.lists.next_open.Given as goal

abbrev pub invariant-loop-owner : goal.invariant-loop-owner
invariant-loop-owner l = passed (at l.bits) (agenda l.problem l.chosen) ≡ passed (at l.bits) (agenda l.problem (drop l.owner-index l.chosen))
