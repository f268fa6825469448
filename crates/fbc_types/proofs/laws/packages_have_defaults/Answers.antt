use Rattle.fbc_types.proofs.Valid.{packages_have_defaults}
use Rattle.fbc_types.proofs.laws.packages_have_defaults.Goals as goal

pub returns : goal.returns
returns c = packages_have_defaults
