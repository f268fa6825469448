use Rattle.std.proofs.Common.{◌≡◌, map, take, Some}
use Rattle.op_properties.specs.Asked as spec
use Rattle.op_properties.proofs.asked.+asked.Given as goal

abbrev pub invariant-read_members-constraints : goal.invariant-read_members-constraints
invariant-read_members-constraints l =
    spec.each_there (map spec.requirement_of (take l.constraint-index l.constraints)) ≡ Some l.members
