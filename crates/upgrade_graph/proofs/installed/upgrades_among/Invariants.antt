use Rattle.std.proofs.Common.{◌≡◌, ◌++◌, map, drop}
use Rattle.semver.specs.Identifiers.{parts_of}
use Rattle.upgrade_graph.specs.Order.{names}
use Rattle.upgrade_graph.specs.Placed.{entry_of}
use Rattle.upgrade_graph.specs.Upgrades.{upgrades_among}
use Rattle.upgrade_graph.proofs.installed.upgrades_among.Given as goal

abbrev pub invariant-loop-placed : goal.invariant-loop-placed
invariant-loop-placed l =
    l.found.items ++ names (upgrades_among (map entry_of (drop l.placed-index l.entries)) l.name (parts_of l.version))
    ≡ names (upgrades_among (map entry_of l.entries) l.name (parts_of l.version))
