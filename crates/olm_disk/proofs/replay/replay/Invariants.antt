use Rattle.std.proofs.Common.{◌≡◌, take}
use Rattle.olm_disk.specs.Kept.{kept_after}
use Rattle.olm_disk.proofs.replay.replay.Given as goal

abbrev pub invariant-loop-stage : goal.invariant-loop-stage
invariant-loop-stage l = l.content.items ≡ (kept_after l.start (take l.stage-index l.stages)).content
