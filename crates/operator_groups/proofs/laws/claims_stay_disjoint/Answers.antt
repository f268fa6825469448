use Rattle.operator_groups.proofs.Disjoint.{none_disjoint, stay}
use Rattle.operator_groups.proofs.laws.claims_stay_disjoint.Goals as goal

pub returns-clause-none : goal.returns-clause-none
returns-clause-none c = none_disjoint

pub returns-clause-next : goal.returns-clause-next
returns-clause-next c entries wanted next disjoint h = stay entries wanted next disjoint h
