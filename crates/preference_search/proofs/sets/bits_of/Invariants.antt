use Rattle.std.proofs.Common.{◌≡◌, take, length}
use Rattle.op_constraints.specs.Meets.{at}
use Rattle.op_constraints.specs.Walks.{is_among}
use Rattle.preference_search.proofs.sets.bits_of.Given as goal

abbrev pub invariant-loop-var : goal.invariant-loop-var
invariant-loop-var l = record {
  size : length l.bits.items ≡ length l.problem;
  same : at l.bits.items ≡ is_among (take l.var-index l.vars);
}
