use Rattle.std.proofs.Common.{◌≡◌, drop}
use Rattle.op_constraints.specs.Walks.{is_among}
use Rattle.preference_search.proofs.search.stands_among.Given as goal

abbrev pub invariant-loop-other : goal.invariant-loop-other
invariant-loop-other l = is_among l.vars l.fn.var ≡ is_among (drop l.other-index l.vars) l.fn.var
