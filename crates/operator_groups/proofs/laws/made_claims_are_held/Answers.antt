use Rattle.operator_groups.proofs.Disjoint.{held}
use Rattle.operator_groups.proofs.laws.made_claims_are_held.Goals as goal

pub returns : goal.returns
returns c entries wanted next h = held entries wanted next h
