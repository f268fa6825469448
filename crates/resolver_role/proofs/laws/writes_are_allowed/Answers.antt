use Rattle.cluster_history.specs.Views.{view}
use Rattle.controller_rules.proofs.Allowed.{resolver_allowed}
use Rattle.resolver_role.proofs.laws.writes_are_allowed.Goals as goal

pub returns : goal.returns
returns c is_valid h namespace a w low up is =
    resolver_allowed is_valid c.plans_are_new.ensures.new h (view h namespace a) w is
