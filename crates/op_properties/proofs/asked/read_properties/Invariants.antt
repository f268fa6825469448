use Rattle.std.proofs.Common.{◌≡◌, take, Some}
use Rattle.op_properties.specs.Asked as spec
use Rattle.op_properties.proofs.asked.read_properties.Given as goal

abbrev pub invariant-properties : goal.invariant-properties
invariant-properties l = spec.requirements_in (take l.property-index l.properties) ≡ Some l.found
