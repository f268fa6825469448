use Rattle.object_bodies.proofs.Whole.{objects_are_named}
use Rattle.object_bodies.proofs.laws.namespace_law.Goals as goal

pub returns : goal.returns
returns c = objects_are_named
