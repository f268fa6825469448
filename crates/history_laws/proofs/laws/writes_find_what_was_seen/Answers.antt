use Rattle.history_laws.proofs.Planning.{plan_as_seen}
use Rattle.history_laws.proofs.Putting.{step_as_seen}
use Rattle.history_laws.proofs.laws.writes_find_what_was_seen.Goals as goal

pub returns-clause-plan : goal.returns-clause-plan
returns-clause-plan c is_valid h w object lawful is kind = plan_as_seen is_valid h w object lawful is kind

pub returns-clause-step : goal.returns-clause-step
returns-clause-step c is_valid h w object stamp lawful is stamped = step_as_seen is_valid h w object stamp lawful is stamped
