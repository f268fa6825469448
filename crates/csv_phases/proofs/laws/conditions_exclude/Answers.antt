use Rattle.csv_phases.proofs.Leading.{ready_fits, ready_not_lost}
use Rattle.csv_phases.proofs.laws.conditions_exclude.Goals as goal

pub returns-clause-deployments : goal.returns-clause-deployments
returns-clause-deployments c view csv h = ready_not_lost view csv h

pub returns-clause-group : goal.returns-clause-group
returns-clause-group c view csv h = ready_fits view csv h
