use Rattle.std.proofs.Common.{◌≡◌, drop}
use Rattle.op_constraints.specs.Walks.{mandatory, walk, walk_from}
use Rattle.derivation_check.specs.Faults.{walk_fault}
use Rattle.derivation_check.proofs.walking.walk_along.Given as goal

abbrev pub invariant-loop-i : goal.invariant-loop-i
invariant-loop-i l = record {
  problem : l.path.problem ≡ l.initial.path.problem;
  rest : walk_fault l.initial.path.problem (mandatory l.initial.path.problem) 0 l.numbers ≡ walk_fault l.initial.path.problem l.path.chosen l.i (drop l.i l.numbers);
  walked : walk l.initial.path.problem l.numbers ≡ walk_from l.initial.path.problem l.path.chosen (drop l.i l.numbers);
}
