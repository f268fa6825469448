use Rattle.std.proofs.Common.{◌≡◌, length}
use Rattle.op_constraints.specs.Trails.{Trying}
use Rattle.op_constraints.proofs.first.Trail.go_on.Given as goal

abbrev pub invariant-loop-var : goal.invariant-loop-var
invariant-loop-var l = record {
  trying : Trying l.tries l.self l.number;
  problem : l.self.problem.now ≡ l.initial.self.problem.now;
  count : l.self.count ≡ l.initial.self.count;
}

abbrev pub decreases-loop-var : goal.decreases-loop-var
decreases-loop-var l = length l.self.numbers.items
