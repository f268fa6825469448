use Rattle.cluster_history.specs.History.{After}
use Rattle.role_laws.proofs.Plans.{plan_goes}
use Rattle.role_laws.proofs.laws.plans_go_by_edges.Goals as goal

pub returns : goal.returns
returns c is_valid h w key accepts kept = plan_goes is_valid h w key (c.roles_are_lawful.ensures.lawful is_valid (After w h) accepts kept) kept
