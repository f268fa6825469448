use Rattle.op_constraints.proofs.Prefixes.{chosen_are_picked}
use Rattle.op_constraints.proofs.laws.chosen_are_picked.Goals as goal

pub returns : goal.returns
returns c = chosen_are_picked
