use Rattle.std.proofs.Common.{List, Some, map, ap, sym, ◌∙◌}
use Rattle.std.specs.List.{flat_map}
use Rattle.upgrade_graph.specs.Tables.{under}
use Rattle.upgrade_graph.specs.Order.{bundle_named}
use Rattle.catalog_lines.specs.Nodes.{node, node_line}
use Rattle.catalog_lines.specs.declared.nodes.Node.{Node}
use Rattle.catalog_lines.proofs.Printed.{lines_are}
use Rattle.catalog_lines.proofs.graph.lines_of_channel.Goals as goal

pub returns-in_ok-node_lines-in-Some : goal.returns-in_ok-node_lines-in-Some
returns-in_ok-node_lines-in-Some c =
    let look = under c.in_ok-table-in-Some.table.entries in
    let lines = λ (all : List Node). Some (flat_map (node_line all) all) in
    let bundles = c.as_slice.ensures ∙ ap (λ catalog. catalog.bundles) c.catalog.ensures.catalog in
    let all = c.as_slice-in-Some-2.ensures.value ∙ c.in_ok-all-in-Some.ensures ∙ ap (map (node look c.in-Some.entries)) c.as_slice-in-Some.ensures in
    ap Some c.in_ok-node_lines-in-Some.ensures ∙ ap lines all
    ∙ lines_are c.args.catalog.now c.args.«package».now c.args.channel.now look c.in-Some.entries
    (λ name. c.in_ok-table-in-Some.ensures name ∙ ap (λ list. bundle_named list c.args.«package».now name) bundles) (sym c.in-Some.is ∙ c.in_ok-entries.ensures)
    c.in_ok-names-in-Some.names c.in_ok-names-in-Some.ensures
