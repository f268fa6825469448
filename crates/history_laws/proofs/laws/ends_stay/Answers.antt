use Rattle.history_laws.proofs.Planning.{end_stays}
use Rattle.history_laws.proofs.laws.ends_stay.Goals as goal

pub returns : goal.returns
returns c is_valid h a key plan new lawful kind was is ended = end_stays is_valid h a key plan new lawful kind was is ended
