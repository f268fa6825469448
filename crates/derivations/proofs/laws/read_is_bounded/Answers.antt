use Rattle.derivations.proofs.Bounded.{read_is_bounded}
use Rattle.derivations.proofs.laws.read_is_bounded.Goals as goal

pub returns : goal.returns
returns c = read_is_bounded
