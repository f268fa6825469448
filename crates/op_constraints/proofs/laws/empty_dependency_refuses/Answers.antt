use Rattle.op_constraints.proofs.Full.{none_meets}
use Rattle.op_constraints.proofs.laws.empty_dependency_refuses.Goals as goal

pub returns : goal.returns
returns c = none_meets
