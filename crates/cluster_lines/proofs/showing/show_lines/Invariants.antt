use Rattle.std.proofs.Common.{◌≡◌, ◌++◌, drop}
use Rattle.std.specs.List.{flat_map}
use Rattle.cluster_lines.specs.Lines.{slot_line}
use Rattle.cluster_lines.proofs.showing.show_lines.Given as goal

abbrev pub invariant-slots : goal.invariant-slots
invariant-slots l =
    l.out.items ++ flat_map (slot_line l.view.namespace) (drop l.entry-index l.entry-items)
    ≡ flat_map (slot_line l.view.namespace) l.entry-items
