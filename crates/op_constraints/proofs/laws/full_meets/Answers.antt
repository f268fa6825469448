use Rattle.op_constraints.proofs.Full.{full_meets}
use Rattle.op_constraints.proofs.laws.full_meets.Goals as goal

pub returns : goal.returns
returns c = full_meets
