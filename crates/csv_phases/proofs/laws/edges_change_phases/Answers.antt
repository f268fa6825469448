use Rattle.csv_phases.proofs.Leading.{change}
use Rattle.csv_phases.proofs.laws.edges_change_phases.Goals as goal

pub returns : goal.returns
returns c view csv edge new h e = change view csv edge new h e
