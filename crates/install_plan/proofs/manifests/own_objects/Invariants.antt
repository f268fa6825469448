use Rattle.std.proofs.Common.{◌≡◌, ◌++◌, drop, map}
use Rattle.std.specs.List.{filter_map}
use Rattle.install_plan.specs.Manifests.{object_of}
use Rattle.install_plan.proofs.manifests.own_objects.Given as goal

abbrev pub invariant-properties : goal.invariant-properties
invariant-properties l =
    map (λ object. object.now) l.objects.items ++ filter_map object_of (drop l.property-index l.property-items)
    ≡ filter_map object_of l.property-items
