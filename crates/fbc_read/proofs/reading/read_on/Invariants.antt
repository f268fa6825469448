use Rattle.std.proofs.Common.{◌-◌, length}
use Rattle.catalog_stream.specs.Stream.{blobs_from}
use Rattle.fbc_read.proofs.Along.{Along, Goes}
use Rattle.fbc_read.proofs.reading.read_on.Given as goal

abbrev pub invariant-blobs : goal.invariant-blobs
invariant-blobs l = Goes l.fn.blobs l.blobs l.count (Along l.fn.into l.first (blobs_from l.fn.blobs.text l.fn.blobs.at) (blobs_from l.blobs.text l.blobs.at) l.count l.into)

abbrev pub decreases-blobs : goal.decreases-blobs
decreases-blobs l = length l.blobs.text - l.blobs.at
