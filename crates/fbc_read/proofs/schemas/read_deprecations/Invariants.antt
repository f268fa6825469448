use Rattle.std.proofs.Common.{map}
use Rattle.serde_json.specs.View.{view}
use Rattle.fbc_read.specs.Blobs.{deprecation}
use Rattle.json_fields.proofs.Lists.{Reads}
use Rattle.fbc_read.proofs.schemas.read_deprecations.Given as goal

abbrev pub invariant-loop-index : goal.invariant-loop-index
invariant-loop-index l = Reads (deprecation l.owner) (map view l.items) l.index l.found.items
