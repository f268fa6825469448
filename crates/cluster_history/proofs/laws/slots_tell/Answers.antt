use Rattle.cluster_history.proofs.Telling.{version_told, object_told, stamps_told}
use Rattle.cluster_history.proofs.laws.slots_tell.Goals as goal

pub returns-clause-version : goal.returns-clause-version
returns-clause-version c h key = version_told h key

pub returns-clause-object : goal.returns-clause-object
returns-clause-object c h key = object_told h key

pub returns-clause-stamps : goal.returns-clause-stamps
returns-clause-stamps c h key = stamps_told h key
