use Rattle.std.proofs.Common.{◌≡◌, ◌-◌, length, map}
use Rattle.catalog_stream.specs.Stream.{blob_view}
use Rattle.catalog_stream.proofs.Turns.{HasTaken}
use Rattle.catalog_stream.proofs.blobs.read_blobs.Given as goal

abbrev pub invariant-blobs : goal.invariant-blobs
invariant-blobs l =
    record {
      text : l.blobs.text ≡ l.text;
      taken : HasTaken l.text (map blob_view l.found.items) l.blobs.text l.blobs.at;
    }

abbrev pub decreases-blobs : goal.decreases-blobs
decreases-blobs l = length l.blobs.text - l.blobs.at
