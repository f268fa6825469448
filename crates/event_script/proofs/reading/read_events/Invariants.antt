use Rattle.std.proofs.Common.{◌-◌, length}
use Rattle.event_script.proofs.Along.{Reads}
use Rattle.event_script.proofs.reading.read_events.Given as goal

abbrev pub invariant-blobs : goal.invariant-blobs
invariant-blobs l = Reads l.text l.blobs l.found.items

abbrev pub decreases-blobs : goal.decreases-blobs
decreases-blobs l = length l.blobs.text - l.blobs.at
