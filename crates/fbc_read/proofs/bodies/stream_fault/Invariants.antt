use Rattle.std.proofs.Common.{◌≡◌, ◌-◌, length}
use Rattle.catalog_stream.specs.Stream.{blobs, blobs_from}
use Rattle.fbc_read.proofs.bodies.stream_fault.Given as goal

abbrev pub invariant-blobs : goal.invariant-blobs
invariant-blobs l = (l.blobs.text ≡ l.text) × ((blobs_from l.blobs.text l.blobs.at).fault ≡ (blobs l.text).fault)

abbrev pub decreases-blobs : goal.decreases-blobs
decreases-blobs l = length l.blobs.text - l.blobs.at
