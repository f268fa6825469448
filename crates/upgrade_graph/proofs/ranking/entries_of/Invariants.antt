use Rattle.std.proofs.Common.{◌≡◌, map, take}
use Rattle.upgrade_graph.specs.Ranks.{stands_for}
use Rattle.upgrade_graph.proofs.ranking.entries_of.Given as goal

abbrev pub invariant-loop-item : goal.invariant-loop-item
invariant-loop-item l = map (λ entry. entry.now) l.found.items ≡ map stands_for (take l.item-index l.ranked)
