use Rattle.derivations.proofs.Sound.{given_holds}
use Rattle.derivations.proofs.laws.given_clauses_hold.Goals as goal

pub returns : goal.returns
returns c = given_holds
