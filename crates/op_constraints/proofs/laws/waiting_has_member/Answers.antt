use Rattle.op_constraints.proofs.Full.{waiting_member}
use Rattle.op_constraints.proofs.laws.waiting_has_member.Goals as goal

pub returns : goal.returns
returns c = waiting_member
