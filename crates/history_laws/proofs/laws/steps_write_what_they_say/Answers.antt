use Rattle.history_laws.proofs.Putting.{puts_step}
use Rattle.history_laws.proofs.laws.steps_write_what_they_say.Goals as goal

pub returns : goal.returns
returns c is_valid h w object stamp lawful is stamped = puts_step is_valid h w object stamp lawful is stamped
