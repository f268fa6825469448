use Rattle.std.proofs.Common.{◌≡◌, map, take}
use Rattle.std.specs.List.{All}
use Rattle.upgrade_graph.specs.Ranks.{IsRanked, stands_for}
use Rattle.upgrade_graph.proofs.ranking.rank_all.Given as goal

abbrev pub invariant-loop-entry : goal.invariant-loop-entry
invariant-loop-entry l = record {
  same : map stands_for l.ranked.items ≡ map (λ entry. entry.now) (take l.entry-index l.entries);
  ranks : All (IsRanked l.bundles l.owner) l.ranked.items;
}
