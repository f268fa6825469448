use Rattle.std.proofs.Common.{◌≡◌, drop}
use Rattle.object_store.specs.Misses.{miss_of}
use Rattle.object_store.proofs.mem.miss_at.Given as goal

abbrev pub invariant-loop-miss : goal.invariant-loop-miss
invariant-loop-miss l = miss_of (drop l.miss-index l.misses) l.call ≡ miss_of l.misses l.call
