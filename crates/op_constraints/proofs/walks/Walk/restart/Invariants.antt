use Rattle.std.proofs.Common.{◌≡◌, vec_len, vec_capacity}
use Rattle.op_constraints.specs.WalkInvariant.{Stands, HasRoom}
use Rattle.op_constraints.proofs.walks.Walk.restart.Given as goal

abbrev pub invariant-loop-number : goal.invariant-loop-number
invariant-loop-number l = record {
  stands : Stands l.self-inside.problem.now l.self-inside.set l.self-inside.chosen.items l.self-inside.numbers.items;
  room : HasRoom l.self-inside.problem.now (vec_capacity l.self-inside.chosen) (vec_capacity l.self-inside.numbers);
  problem : l.self-inside.problem.now ≡ l.initial.self-inside.problem.now;
}

abbrev pub decreases-loop-number : goal.decreases-loop-number
decreases-loop-number l = vec_len l.self-inside.numbers
