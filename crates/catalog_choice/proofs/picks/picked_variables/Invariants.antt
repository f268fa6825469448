use Rattle.std.proofs.Common.{◌≡◌, ◌++◌, drop}
use Rattle.op_constraints.specs.Walks.{mandatory, walk, walk_from}
use Rattle.catalog_choice.proofs.picks.picked_variables.Given as goal

abbrev pub invariant-loop-number : goal.invariant-loop-number
invariant-loop-number l = record {
  problem : l.path.problem ≡ l.problem;
  chosen : l.path.chosen ≡ mandatory l.problem ++ l.members.items;
  walked : walk l.problem l.numbers ≡ walk_from l.problem l.path.chosen (drop l.number-index l.numbers);
}
