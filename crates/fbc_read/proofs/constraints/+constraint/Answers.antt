use Rattle.std.proofs.Common.{◌+◌, ◌<◌, ◌≤◌, map, sym, subst, codes, arith}
use Rattle.serde_json.specs.Data.{depth}
use Rattle.serde_json.specs.View.{view}
use Rattle.olm_base.specs.Outcome.{Gives}
use Rattle.json_fields.specs.Faults.{is_free, item_step}
use Rattle.fbc_read.specs.Constraints.{constraint}
use Rattle.json_fields.proofs.Lists.{Reads, one_more, one_fault, at_item, below_ok, below_err}
use Rattle.fbc_read.proofs.Depths.{fields_depth, list_depth, item_depth, all_depth}
use Rattle.fbc_read.proofs.Nesting.{constraint_is}
use Rattle.fbc_read.proofs.constraints.+constraint.Goals as goal

pub form_at-form_test-requires : goal.form_at-form_test-requires
form_at-form_test-requires t c =
    let less : depth (view c.in-Ok.inner.now) < depth (view c.args.value.now) = fields_depth (view c.args.value.now) c.key.result.now (view c.in-Ok.inner.now) (sym c.in-Ok.ensures) in
    (omega (arith, less), tt)

pub nested_tests-read_tests-requires : goal.nested_tests-read_tests-requires
nested_tests-read_tests-requires t c =
    let deep : all_depth (map view c.in-Ok.items.now) + 2 ≤ depth (view c.args.value.now) = list_depth (view c.args.value.now) (codes "constraints") (map view c.in-Ok.items.now) (sym c.in-Ok.ensures) in
    (omega (arith, deep), tt)

pub read_tests-read_test-requires : goal.read_tests-read_test-requires
read_tests-read_test-requires t c =
    let deep : depth (view c.index-items-index.result) ≤ all_depth (map view c.args.items.now) = item_depth c.args.items.now c.loop-index.index c.index-items-index.result c.loop-index-test.true c.index-items-index.is in
    (omega (arith, deep), tt)

pub read_tests-returns-in-Err : goal.read_tests-returns-in-Err
read_tests-returns-in-Err t c =
    λ free.
    let here = at_item c.args.items.now c.loop-index.index c.index-items-index.result c.loop-index-test.true c.index-items-index.is in
    let reads : Gives is_free (constraint (view c.index-items-index.result)) c.read_test.result = subst (λ wanted. Gives is_free wanted c.read_test.result) (sym (constraint_is (view c.index-items-index.result))) c.read_test.ensures in
    one_fault constraint _ c.loop-index.index c.loop-index.found.items (view c.index-items-index.result) c.in-Err.fault here
    (below_err (item_step c.loop-index.index) _ c.read_test.result c.in-Err.fault reads free (c.in-Err.ensures free)) c.loop-index.invariant

pub read_tests-loop-index-preserved : goal.read_tests-loop-index-preserved
read_tests-loop-index-preserved t c =
    let here = at_item c.args.items.now c.loop-index.index c.index-items-index.result c.loop-index-test.true c.index-items-index.is in
    let reads : Gives is_free (constraint (view c.index-items-index.result)) c.read_test.result = subst (λ wanted. Gives is_free wanted c.read_test.result) (sym (constraint_is (view c.index-items-index.result))) c.read_test.ensures in
    subst (Reads constraint (map view c.args.items.now) (c.loop-index.index + 1)) (sym c.in-Ok-push.ensures.items)
    (one_more constraint _ c.loop-index.index c.loop-index.found.items (view c.index-items-index.result) c.in-Ok.test here
    (below_ok (item_step c.loop-index.index) _ c.read_test.result c.in-Ok.test reads c.in-Ok.ensures) c.loop-index.invariant)
