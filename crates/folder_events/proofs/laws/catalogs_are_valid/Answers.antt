use Rattle.folder_events.proofs.Written.{writes_valid}
use Rattle.folder_events.proofs.laws.catalogs_are_valid.Goals as goal

pub returns : goal.returns
returns c = writes_valid
