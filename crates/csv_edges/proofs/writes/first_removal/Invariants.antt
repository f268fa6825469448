use Rattle.std.proofs.Common.{◌≡◌, Bool, drop, map, slice_get}
use Rattle.std.specs.List.{filter}
use Rattle.cluster_objects.specs.declared.objects.Write.{Write}
use Rattle.csv_phases.specs.Csvs.{Csv}
use Rattle.csv_phases.specs.Edges.{applies}
use Rattle.csv_phases.specs.Phases.{edge_write}
use Rattle.csv_phases.specs.declared.edges.Edge.TheVariants.{Remove}
use Rattle.csv_edges.proofs.writes.first_removal.Given as goal

abbrev pub invariant-csvs : goal.invariant-csvs
invariant-csvs l =
    let test : Csv → Bool = λ csv. applies l.view csv Remove in
    let write : Csv → Write = λ csv. edge_write l.view csv Remove in
    slice_get (map write (filter test (drop l.csv-index l.csv-items))) 0 ≡ slice_get (map write (filter test l.csv-items)) 0
