use Rattle.std.proofs.Common.{◌≡◌, take}
use Rattle.op_properties.specs.Offers as spec
use Rattle.op_properties.proofs.offer.kinds_of.Given as goal

abbrev pub invariant-properties : goal.invariant-properties
invariant-properties l = l.kinds ≡ spec.kinds_of (take l.property-index l.properties)
