use Rattle.derivations.proofs.Best.{accepted_right}
use Rattle.derivations.proofs.laws.accepted_is_right.Goals as goal

pub returns : goal.returns
returns c = accepted_right
