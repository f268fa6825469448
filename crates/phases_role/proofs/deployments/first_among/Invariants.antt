use Rattle.std.proofs.Common.{◌≡◌, drop}
use Rattle.std.specs.List.{filter_map, slice_get}
use Rattle.phases_role.specs.Each.{deployment_of}
use Rattle.phases_role.proofs.deployments.first_among.Given as goal

abbrev pub invariant-csvs : goal.invariant-csvs
invariant-csvs l =
    slice_get (filter_map (deployment_of l.view) (drop l.csv-index l.csvs)) 0
    ≡ slice_get (filter_map (deployment_of l.view) l.csvs) 0
