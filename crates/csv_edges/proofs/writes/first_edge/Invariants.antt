use Rattle.std.proofs.Common.{◌≡◌, Option, drop, slice_get}
use Rattle.std.specs.List.{filter_map}
use Rattle.std.specs.Option.{option_map}
use Rattle.cluster_objects.specs.declared.objects.Write.{Write}
use Rattle.csv_phases.specs.Csvs.{Csv}
use Rattle.csv_phases.specs.Edges.{chosen}
use Rattle.csv_phases.specs.Phases.{edge_write}
use Rattle.csv_edges.proofs.writes.first_edge.Given as goal

abbrev pub invariant-csvs : goal.invariant-csvs
invariant-csvs l =
    let pick : Csv → Option Write = λ csv. option_map (edge_write l.view csv) (chosen l.view csv) in
    slice_get (filter_map pick (drop l.csv-index l.csv-items)) 0 ≡ slice_get (filter_map pick l.csv-items) 0
