use Rattle.fbc_types.proofs.Valid.{entries_are_bundles}
use Rattle.fbc_types.proofs.laws.entries_are_bundles.Goals as goal

pub returns : goal.returns
returns c = entries_are_bundles
