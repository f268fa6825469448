use Rattle.lawful_history.proofs.Moments.{beginning, empty_sound}
use Rattle.lawful_history.proofs.laws.histories_begin.Goals as goal

pub returns-clause-empty : goal.returns-clause-empty
returns-clause-empty c is_valid = empty_sound is_valid

pub returns-clause-beginning : goal.returns-clause-beginning
returns-clause-beginning c is_valid h a lawful = beginning is_valid a h lawful
