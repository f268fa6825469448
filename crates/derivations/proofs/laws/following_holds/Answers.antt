use Rattle.derivations.specs.Follows.{clauses}
use Rattle.derivations.proofs.Sound.{fault_of-holds}
use Rattle.derivations.proofs.laws.following_holds.Goals as goal

pub returns : goal.returns
returns c = λ problem log lits hints set. fault_of-holds problem (clauses log) lits hints set
