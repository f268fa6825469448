use Rattle.std.proofs.Common.{None}
use Rattle.lawful_events.proofs.Keeping.{kept}
use Rattle.lawful_events.proofs.laws.plans_are_only_approved.Goals as goal

pub returns : goal.returns
returns c h w key users = (kept None h users.0 w users.2 key).plan
