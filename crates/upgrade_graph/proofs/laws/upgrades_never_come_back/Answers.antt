use Rattle.upgrade_graph.proofs.Positions.{upgrades_never_come_back}
use Rattle.upgrade_graph.proofs.laws.upgrades_never_come_back.Goals as goal

pub returns : goal.returns
returns c = upgrades_never_come_back
