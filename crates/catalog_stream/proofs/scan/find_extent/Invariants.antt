use Rattle.std.proofs.Common.{◌≡◌, ◌<◌, drop}
use Rattle.catalog_stream.specs.Depth.{extent}
use Rattle.catalog_stream.proofs.Scanning.{extent_from}
use Rattle.catalog_stream.proofs.scan.find_extent.Given as goal

abbrev pub invariant-loop-at : goal.invariant-loop-at
invariant-loop-at l =
    record {
      below : l.seen.depth < 128;
      same : extent_from l.seen l.at (drop l.at l.rest) ≡ extent l.rest;
    }
