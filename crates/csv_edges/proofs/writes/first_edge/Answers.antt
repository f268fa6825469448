use Rattle.std.proofs.Common.{Option, slice_get, sym, ap, ◌∙◌}
use Rattle.std.specs.List.{filter_map}
use Rattle.std.specs.Option.{option_map}
use Rattle.cluster_objects.specs.declared.objects.Write.{Write}
use Rattle.csv_phases.specs.Csvs.{Csv}
use Rattle.csv_phases.specs.Edges.{chosen}
use Rattle.csv_phases.specs.Phases.{edge_write}
use Rattle.csv_edges.proofs.Firsts.{first_here}
use Rattle.csv_edges.proofs.writes.first_edge.Goals as goal

pub returns-in-Some : goal.returns-in-Some
returns-in-Some c =
    let view = c.args.view.now in
    let pick : Csv → Option Write = λ csv. option_map (edge_write view csv) (chosen view csv) in
    first_here pick c.as_slice-csv-items.result.now c.csvs.csv-index c.csv-item.result c.in-Some.write c.csvs-test.true c.csv-item.is
    (sym c.in_ok-write.ensures ∙ c.in-Some.is) c.csvs.invariant
    ∙ ap (λ csvs. slice_get (filter_map pick csvs) 0) (c.as_slice-csv-items.ensures.value ∙ c.in_ok-csvs.ensures)
