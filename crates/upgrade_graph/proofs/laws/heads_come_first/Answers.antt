use Rattle.upgrade_graph.proofs.Once.{heads_come_first}
use Rattle.upgrade_graph.proofs.laws.heads_come_first.Goals as goal

pub returns : goal.returns
returns c = heads_come_first c.channels_have_chains.ensures
