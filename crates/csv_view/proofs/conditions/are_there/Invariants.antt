use Rattle.std.proofs.Common.{◌≡◌, drop}
use Rattle.std.specs.List.{list_all}
use Rattle.csv_phases.specs.Conditions.{is_crd_there}
use Rattle.csv_view.proofs.conditions.are_there.Given as goal

abbrev pub invariant-crds : goal.invariant-crds
invariant-crds l = list_all (is_crd_there l.view) (drop l.crd-index l.crds) ≡ list_all (is_crd_there l.view) l.crds
