use Rattle.folder_events.proofs.OneThing.{one_thing}
use Rattle.folder_events.proofs.laws.asks_one_thing.Goals as goal

pub returns : goal.returns
returns c = one_thing
