use Rattle.upgrade_graph.proofs.Positions.{upgrades_stand_before}
use Rattle.upgrade_graph.proofs.laws.upgrades_stand_before.Goals as goal

pub returns : goal.returns
returns c = upgrades_stand_before
