use Rattle.fbc_types.proofs.Valid.{channels_have_chains}
use Rattle.fbc_types.proofs.laws.channels_have_chains.Goals as goal

pub returns : goal.returns
returns c = channels_have_chains
