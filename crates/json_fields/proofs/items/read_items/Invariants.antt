use Rattle.std.proofs.Common.{map}
use Rattle.serde_json.specs.View.{view}
use Rattle.json_fields.proofs.Lists.{Reads}
use Rattle.json_fields.proofs.items.read_items.Given as goal

abbrev pub invariant-loop-index : goal.invariant-loop-index
invariant-loop-index g l = Reads g.R.Reader.reading (map view l.items) l.index l.found.items
