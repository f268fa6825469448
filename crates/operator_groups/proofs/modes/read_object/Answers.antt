use Rattle.catalog_stream.proofs.Objects.{object_there, no_object}
use Rattle.operator_groups.proofs.modes.read_object.Goals as goal

pub returns-then-is_object : goal.returns-then-is_object
returns-then-is_object c = object_there _ _ _ c.in-Ok.ensures.ok.0 c.in-Ok.ensures.ok.1 c.is_object.ensures c.if-is_object.true

pub returns-else-is_object : goal.returns-else-is_object
returns-else-is_object c = no_object _ _ _ c.in-Ok.ensures.ok.0 c.in-Ok.ensures.ok.1 c.is_object.ensures c.if-is_object.false
