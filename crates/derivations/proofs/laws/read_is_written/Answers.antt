use Rattle.derivations.proofs.Again.{read_is_written}
use Rattle.derivations.proofs.laws.read_is_written.Goals as goal

pub returns : goal.returns
returns c = read_is_written
