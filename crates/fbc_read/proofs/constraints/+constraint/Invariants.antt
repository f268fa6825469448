use Rattle.std.proofs.Common.{◌+◌, ◌*◌, map}
use Rattle.serde_json.specs.Data.{depth}
use Rattle.serde_json.specs.View.{view}
use Rattle.fbc_read.specs.Constraints.{constraint}
use Rattle.json_fields.proofs.Lists.{Reads}
use Rattle.fbc_read.proofs.Depths.{all_depth}
use Rattle.fbc_read.proofs.constraints.+constraint.Given as goal

abbrev pub decreases-read_test : goal.decreases-read_test
decreases-read_test l = 2 * depth (view l.value.now) + 1

abbrev pub decreases-form_at : goal.decreases-form_at
decreases-form_at l = 2 * depth (view l.value.now)

abbrev pub decreases-form_test : goal.decreases-form_test
decreases-form_test l = 2 * depth (view l.value.now) + 1

abbrev pub decreases-nested_tests : goal.decreases-nested_tests
decreases-nested_tests l = 2 * depth (view l.value.now)

abbrev pub decreases-read_tests : goal.decreases-read_tests
decreases-read_tests l = 2 * all_depth (map view l.items.now) + 2

abbrev pub invariant-read_tests-loop-index : goal.invariant-read_tests-loop-index
invariant-read_tests-loop-index l = Reads constraint (map view l.items) l.index l.found.items
