use Rattle.lawful_events.proofs.Running.{runs_go_on, goes_on_lawful}
use Rattle.lawful_events.proofs.laws.runs_stay_lawful.Goals as goal

pub returns-clause-extends : goal.returns-clause-extends
returns-clause-extends c fits limit files h new es before now result ranges is = runs_go_on fits limit files h new es before now result ranges is

pub returns-clause-lawful : goal.returns-clause-lawful
returns-clause-lawful c is_valid accepts h new goes lawful = goes_on_lawful is_valid accepts h new goes lawful
