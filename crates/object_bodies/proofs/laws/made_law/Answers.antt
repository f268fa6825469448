use Rattle.object_bodies.proofs.Whole.{makes_are_new}
use Rattle.object_bodies.proofs.laws.made_law.Goals as goal

pub returns : goal.returns
returns c = makes_are_new
