use Rattle.std.proofs.Common.{ℕ, List, map}
use Rattle.serde_json.specs.View.{view}
use Rattle.fbc_read.specs.Properties.{any_property}
use Rattle.json_fields.proofs.Lists.{Reads}
use Rattle.fbc_read.proofs.properties.check_properties.Given as goal

abbrev pub invariant-loop-index : goal.invariant-loop-index
invariant-loop-index l = (texts : List (List ℕ)) × Reads any_property (map view l.items) l.index texts
