use Rattle.problem_build.proofs.Sharing.{kinds_are_once, packages_are_once}
use Rattle.problem_build.proofs.laws.packages_and_kinds_are_once.Goals as goal

pub returns : goal.returns
returns c = record { packages = packages_are_once; kinds = kinds_are_once }
