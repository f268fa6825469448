use Rattle.derivations.proofs.Converse.{clauses_are_problem}
use Rattle.derivations.proofs.laws.clauses_are_the_problem.Goals as goal

pub returns : goal.returns
returns c = clauses_are_problem
