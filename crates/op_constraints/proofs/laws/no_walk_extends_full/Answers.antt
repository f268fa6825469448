use Rattle.op_constraints.proofs.Prefixes.{no_full_prefix}
use Rattle.op_constraints.proofs.laws.no_walk_extends_full.Goals as goal

pub returns : goal.returns
returns c = no_full_prefix
