use Rattle.std.proofs.Common.{◌≡◌, map, take}
use Rattle.std.specs.List.{All}
use Rattle.upgrade_graph.specs.Placed.{IsPlaced, entry_of}
use Rattle.upgrade_graph.proofs.placed.place_all.Given as goal

abbrev pub invariant-loop-entry : goal.invariant-loop-entry
invariant-loop-entry l = record {
  same : map entry_of l.placed.items ≡ map (λ entry. entry.now) (take l.entry-index l.entries);
  ranges : All IsPlaced l.placed.items;
}
