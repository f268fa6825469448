use Rattle.history_laws.proofs.Keeping.{base_sound}
use Rattle.history_laws.proofs.laws.bases_are_sound.Goals as goal

pub returns : goal.returns
returns c is_valid h lawful = base_sound is_valid h lawful
