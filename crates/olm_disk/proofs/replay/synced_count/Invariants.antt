use Rattle.olm_disk.proofs.Again.{IsSyncedCount}
use Rattle.olm_disk.proofs.replay.synced_count.Given as goal

abbrev pub invariant-loop-index : goal.invariant-loop-index
invariant-loop-index l = IsSyncedCount l.stages l.index l.synced
