use Rattle.std.proofs.Common.{None}
use Rattle.lawful_events.proofs.Allowed.{stays_lawful}
use Rattle.lawful_events.proofs.laws.histories_stay_lawful.Goals as goal

pub returns : goal.returns
returns c is_valid accepts h w users lawful = stays_lawful is_valid accepts None h users.0 w users.2 lawful
