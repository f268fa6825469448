use Rattle.history_laws.proofs.Planning.{cause_stays}
use Rattle.history_laws.proofs.laws.causes_stay.Goals as goal

pub returns : goal.returns
returns c is_valid h a key plan new lawful kind was is = cause_stays is_valid h a key plan new lawful kind was is
