use Rattle.controller_rules.proofs.Resting.{none_is_none}
use Rattle.controller_rules.proofs.laws.resting_resolvers_write_nothing.Goals as goal

pub returns : goal.returns
returns c view w none is = none_is_none view w none is
