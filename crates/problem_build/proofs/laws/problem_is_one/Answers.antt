use Rattle.problem_build.proofs.Facts.{there_is_one}
use Rattle.problem_build.proofs.laws.problem_is_one.Goals as goal

pub returns : goal.returns
returns c = there_is_one
