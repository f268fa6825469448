use Rattle.lawful_events.proofs.Ruled.{ruled}
use Rattle.lawful_events.proofs.laws.users_writes_keep_the_rules.Goals as goal

pub returns : goal.returns
returns c files h cause w asks = ruled files h cause w asks
