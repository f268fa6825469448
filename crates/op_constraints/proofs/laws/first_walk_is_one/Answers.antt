use Rattle.op_constraints.proofs.FirstWalk.{some_first}
use Rattle.op_constraints.proofs.Prefixes.{one_first, succeeding_first}
use Rattle.op_constraints.proofs.laws.first_walk_is_one.Goals as goal

pub returns : goal.returns
returns c = record { exists = some_first; one = one_first; zeros = succeeding_first }
