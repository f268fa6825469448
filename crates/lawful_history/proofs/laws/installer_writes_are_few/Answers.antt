use Rattle.lawful_history.proofs.Counts.{writes-bound, writes-none}
use Rattle.lawful_history.proofs.laws.installer_writes_are_few.Goals as goal

pub returns-clause-plan : goal.returns-clause-plan
returns-clause-plan c is_valid h key plan lawful kind last = writes-bound is_valid h key plan kind lawful last

pub returns-clause-none : goal.returns-clause-none
returns-clause-none c is_valid h key lawful kind last = writes-none is_valid h key kind lawful last
