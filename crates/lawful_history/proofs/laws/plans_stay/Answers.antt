use Rattle.lawful_history.proofs.Law.{goes_on_from}
use Rattle.lawful_history.proofs.Moments.{named_ever}
use Rattle.lawful_history.proofs.laws.plans_stay.Goals as goal

pub returns-clause-named : goal.returns-clause-named
returns-clause-named c is_valid h a key plan lawful kind was = named_ever is_valid h lawful a key plan kind was

pub returns-clause-later : goal.returns-clause-later
returns-clause-later c is_valid h a key plan lawful kind was = goes_on_from is_valid h lawful a key plan kind was
