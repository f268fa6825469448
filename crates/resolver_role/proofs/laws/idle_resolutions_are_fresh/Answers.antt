use Rattle.resolver_role.proofs.Written.{idle_is_fresh}
use Rattle.resolver_role.proofs.laws.idle_resolutions_are_fresh.Goals as goal

pub returns : goal.returns
returns c view none awake = idle_is_fresh view none awake
