use Rattle.version_ranges.proofs.Turns.{alternatives_by_turn, conditions_by_turn}
use Rattle.version_ranges.proofs.laws.turns_law.Goals as goal

pub returns-clause-conditions : goal.returns-clause-conditions
returns-clause-conditions c = conditions_by_turn

pub returns-clause-alternatives : goal.returns-clause-alternatives
returns-clause-alternatives c = alternatives_by_turn
