use Rattle.std.proofs.Common.{◌≡◌, ◌++◌, drop, map}
use Rattle.upgrade_graph.specs.Tables.{under}
use Rattle.catalog_lines.specs.Nodes.{node}
use Rattle.catalog_lines.proofs.nodes.nodes_of.Given as goal

abbrev pub invariant-names : goal.invariant-names
invariant-names l =
    l.found.items ++ map (node (under l.table.entries) l.entries) (drop l.name-index l.names) ≡ map (node (under l.table.entries) l.entries) l.names
