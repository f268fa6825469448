use Rattle.fbc_types.proofs.Valid.{bundles_are_read}
use Rattle.fbc_types.proofs.laws.bundles_are_read.Goals as goal

pub returns : goal.returns
returns c = bundles_are_read
