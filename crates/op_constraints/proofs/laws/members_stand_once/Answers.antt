use Rattle.op_constraints.proofs.Keeping.{each_once-distinct, each_once-among}
use Rattle.op_constraints.proofs.laws.members_stand_once.Goals as goal

pub returns : goal.returns
returns c = record { distinct = each_once-distinct; same = each_once-among }
