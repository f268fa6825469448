use Rattle.std.proofs.Common.{None}
use Rattle.lawful_events.proofs.Keeping.{kept}
use Rattle.lawful_events.proofs.laws.phases_stay.Goals as goal

pub returns-clause-phase : goal.returns-clause-phase
returns-clause-phase c h w key users = (kept None h users.0 w users.2 key).phase

pub returns-clause-state : goal.returns-clause-state
returns-clause-state c h w key users = (kept None h users.0 w users.2 key).state
