use Rattle.std.proofs.Common.{◌≡◌, map, take}
use Rattle.std.specs.List.{All}
use Rattle.catalog_lines.specs.Nodes.{IsSource, node_of}
use Rattle.catalog_lines.proofs.sources.sources_of.Given as goal

abbrev pub invariant-nodes : goal.invariant-nodes
invariant-nodes l = record {
  nodes : map node_of l.sources.items ≡ take l.node-index l.all;
  sets : All IsSource l.sources.items;
}
