use Rattle.object_bodies.proofs.Whole.{objects_are_carried}
use Rattle.object_bodies.proofs.laws.carried_law.Goals as goal

pub returns : goal.returns
returns c = objects_are_carried
