use Rattle.upgrade_graph.proofs.Following.{replacing_comes_first}
use Rattle.upgrade_graph.proofs.laws.replacing_comes_first.Goals as goal

pub returns : goal.returns
returns c = replacing_comes_first c.channels_have_chains.ensures c.entries_are_bundles.ensures
