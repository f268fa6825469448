use Rattle.cluster_history.proofs.State.{slot-written, slot-other}
use Rattle.cluster_history.proofs.laws.one_slot_changes.Goals as goal

pub returns-clause-written : goal.returns-clause-written
returns-clause-written c w h = slot-written w h

pub returns-clause-others : goal.returns-clause-others
returns-clause-others c w h key apart = slot-other w h key apart
