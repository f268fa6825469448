use Rattle.std.proofs.Common.{◌≡◌, drop}
use Rattle.std.specs.List.{filter_map, slice_get}
use Rattle.csv_phases.specs.Phases.{deployment_write}
use Rattle.phases_role.proofs.deployments.first_listed.Given as goal

abbrev pub invariant-names : goal.invariant-names
invariant-names l =
    slice_get (filter_map (deployment_write l.view l.csv) (drop l.name-index l.names)) 0
    ≡ slice_get (filter_map (deployment_write l.view l.csv) l.names) 0
