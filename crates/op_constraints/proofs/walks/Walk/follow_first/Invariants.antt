use Rattle.std.proofs.Common.{◌≡◌, length, ◌-◌}
use Rattle.op_constraints.specs.Walks.{zeros}
use Rattle.op_constraints.proofs.walks.Walk.follow_first.Given as goal

abbrev pub invariant-loop-members : goal.invariant-loop-members
invariant-loop-members l = record {
  zeros : l.self.numbers ≡ zeros (length l.self.numbers);
  problem : l.self.problem ≡ l.initial.self.problem;
}

abbrev pub decreases-loop-members : goal.decreases-loop-members
decreases-loop-members l = length l.self.problem - length l.self.chosen
