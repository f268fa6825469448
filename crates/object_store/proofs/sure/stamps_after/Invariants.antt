use Rattle.std.proofs.Common.{◌≡◌, take}
use Rattle.object_store.proofs.sure.stamps_after.Given as goal

abbrev pub invariant-loop-stamp : goal.invariant-loop-stamp
invariant-loop-stamp l = l.stamps.items ≡ take l.stamp-index l.before
