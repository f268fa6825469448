use Rattle.upgrade_graph.proofs.Once.{orders_list_all}
use Rattle.upgrade_graph.proofs.laws.orders_list_all.Goals as goal

pub returns : goal.returns
returns c = orders_list_all c.channels_have_chains.ensures c.entries_are_bundles.ensures
