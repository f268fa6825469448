use Rattle.csv_phases.proofs.Taking.{all_aside, of_write}
use Rattle.csv_phases.proofs.laws.writes_are_aside.Goals as goal

pub returns : goal.returns
returns c view w is = all_aside view w (of_write view w is)
