use Rattle.op_constraints.proofs.Order.{one_best}
use Rattle.op_constraints.proofs.laws.best_is_one.Goals as goal

pub returns : goal.returns
returns c = one_best
