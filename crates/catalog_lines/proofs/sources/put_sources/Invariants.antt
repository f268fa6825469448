use Rattle.std.proofs.Common.{◌≡◌, ◌++◌, drop, map}
use Rattle.std.specs.List.{flat_map}
use Rattle.catalog_lines.specs.Nodes.{node_of, source_word}
use Rattle.catalog_lines.proofs.sources.put_sources.Given as goal

abbrev pub invariant-others : goal.invariant-others
invariant-others l =
    l.out.items ++ flat_map (source_word l.name) (map node_of (drop l.other-index l.others)) ≡ l.fn.out.items ++ flat_map (source_word l.name) (map node_of l.others)
