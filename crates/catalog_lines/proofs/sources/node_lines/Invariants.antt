use Rattle.std.proofs.Common.{◌≡◌, ◌++◌, drop}
use Rattle.std.specs.List.{flat_map}
use Rattle.catalog_lines.specs.Nodes.{node_line}
use Rattle.catalog_lines.proofs.sources.node_lines.Given as goal

abbrev pub invariant-entries : goal.invariant-entries
invariant-entries l = l.out.items ++ flat_map (node_line l.all) (drop l.entry-index l.all) ≡ flat_map (node_line l.all) l.all
