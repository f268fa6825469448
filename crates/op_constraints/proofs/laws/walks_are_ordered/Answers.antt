use Rattle.op_constraints.proofs.Order.{before_decided, before_one_way, before_onward, before_cases}
use Rattle.op_constraints.proofs.laws.walks_are_ordered.Goals as goal

pub returns : goal.returns
returns c = record { decided = before_decided; one_way = before_one_way; onward = before_onward; total = before_cases }
