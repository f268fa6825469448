use Rattle.fbc_read.proofs.Nesting.{constraint_is}
use Rattle.fbc_read.proofs.laws.constraint_law.Goals as goal

pub returns : goal.returns
returns c = constraint_is
