use Rattle.csv_phases.proofs.Leading.{chosen_applies, none_chosen}
use Rattle.csv_phases.proofs.laws.chosen_edges_apply.Goals as goal

pub returns-clause-applies : goal.returns-clause-applies
returns-clause-applies c view csv edge h = chosen_applies view csv edge h

pub returns-clause-deleting : goal.returns-clause-deleting
returns-clause-deleting c view csv h = none_chosen view csv h
