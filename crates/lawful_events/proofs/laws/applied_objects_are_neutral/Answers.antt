use Rattle.std.proofs.Common.{None}
use Rattle.lawful_events.proofs.Allowed.{neutral, applied_neutral}
use Rattle.lawful_events.proofs.laws.applied_objects_are_neutral.Goals as goal

pub returns-clause-applied : goal.returns-clause-applied
returns-clause-applied c h body w asks = applied_neutral h body w asks

pub returns-clause-others : goal.returns-clause-others
returns-clause-others c h w users plan resolution catalog = neutral None h users.0 w users.2 plan resolution catalog
