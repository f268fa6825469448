use Rattle.std.proofs.Common.{◌≡◌, ℕ, ◌≤◌, List, Some, drop, take, map, length}
use Rattle.op_constraints.specs.Walks.{walk, walk_from}
use Rattle.derivations.specs.Accepted.{pairs_from}
use Rattle.derivation_check.specs.Faults.{pair_of, denies_fault}
use Rattle.derivation_check.proofs.denials.denied_else.Given as goal

abbrev pub invariant-loop-number : goal.invariant-loop-number
invariant-loop-number l = record {
  problem : l.path.problem ≡ l.initial.path.problem;
  stands : walk l.initial.path.problem (take l.number-index l.numbers) ≡ Some l.path.chosen;
  onward : (end : List ℕ) × (walk_from l.initial.path.problem l.path.chosen (drop l.number-index l.numbers) ≡ Some end);
  paired : map pair_of (drop l.next l.steps) ≡ pairs_from l.number-index (drop l.number-index l.numbers);
  within : l.next ≤ length l.steps;
  rest : denies_fault l.initial.path.problem l.numbers l.steps ≡ denies_fault l.initial.path.problem l.numbers (drop l.next l.steps);
}
