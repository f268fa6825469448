use Rattle.std.proofs.Common.{◌≡◌, ◌≤◌, take, length, vec_len, vec_capacity}
use Rattle.op_constraints.specs.Walks.{mandatory}
use Rattle.op_constraints.proofs.walks.mandatory_variables.Given as goal

abbrev pub invariant-loop-index : goal.invariant-loop-index
invariant-loop-index l = record {
  chosen : l.chosen.items ≡ mandatory (take l.index l.problem);
  few : vec_len l.chosen ≤ l.index;
  room : length l.problem ≤ vec_capacity l.chosen;
}
