use Rattle.op_constraints.proofs.Prefixes.{first_is_best}
use Rattle.op_constraints.proofs.laws.first_is_best.Goals as goal

pub returns : goal.returns
returns c = first_is_best
