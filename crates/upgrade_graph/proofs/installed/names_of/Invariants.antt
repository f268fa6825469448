use Rattle.std.proofs.Common.{◌≡◌, ◌++◌, map, drop}
use Rattle.upgrade_graph.specs.Order.{names}
use Rattle.upgrade_graph.specs.Placed.{entry_of}
use Rattle.upgrade_graph.proofs.installed.names_of.Given as goal

abbrev pub invariant-loop-placed : goal.invariant-loop-placed
invariant-loop-placed l = l.found.items ++ names (map entry_of (drop l.placed-index l.entries)) ≡ names (map entry_of l.entries)
