use Rattle.upgrade_graph.proofs.Ranked.{others_are_sorted}
use Rattle.upgrade_graph.proofs.laws.others_are_sorted.Goals as goal

pub returns : goal.returns
returns c = others_are_sorted c.precedence_law.ensures.total
