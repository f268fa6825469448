use Rattle.object_bodies.proofs.Whole.{objects_are_new}
use Rattle.object_bodies.proofs.laws.new_law.Goals as goal

pub returns : goal.returns
returns c = objects_are_new
