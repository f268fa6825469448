use Rattle.op_constraints.proofs.Prefixes.{goes_on}
use Rattle.op_constraints.proofs.laws.walks_go_on.Goals as goal

pub returns : goal.returns
returns c = goes_on
