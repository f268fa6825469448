use Rattle.problem_build.proofs.Facts.{all_are_there}
use Rattle.problem_build.proofs.laws.named_variables_are_there.Goals as goal

pub returns : goal.returns
returns c = all_are_there
