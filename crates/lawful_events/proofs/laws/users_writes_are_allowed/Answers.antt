use Rattle.std.proofs.Common.{None}
use Rattle.lawful_events.proofs.Allowed.{allowed}
use Rattle.lawful_events.proofs.laws.users_writes_are_allowed.Goals as goal

pub returns : goal.returns
returns c is_valid accepts h w users = allowed is_valid accepts None h users.0 w users.2
