use Rattle.std.proofs.Common.{◌≤◌, ◌++◌, ◌∷◌, [], map, length, ap, arith}
use Rattle.serde_json.specs.View.{view}
use Rattle.json_fields.specs.Faults.{item_step}
use Rattle.fbc_read.specs.Properties.{any_property}
use Rattle.json_fields.proofs.Lists.{passed, passed_ok, passed_err, one_more, one_fault, all_read, after_none, at_item, past_items, below_ok, below_err}
use Rattle.fbc_read.proofs.properties.check_properties.Goals as goal

pub loop-index-init : goal.loop-index-init
loop-index-init c = ([], after_none _)

pub returns : goal.returns
returns c =
    let past : length c.args.items.now ≤ c.loop-index.index = omega arith in
    ap passed (all_read any_property (map view c.args.items.now) c.loop-index.index c.loop-index.invariant.0 (past_items c.args.items.now c.loop-index.index past) c.loop-index.invariant.1)

pub returns-in-Err : goal.returns-in-Err
returns-in-Err c =
    λ free.
    let here = at_item c.args.items.now c.loop-index.index c.index-items-index.result c.loop-index-test.true c.index-items-index.is in
    let step = item_step c.loop-index.index in
    let found = below_err step _ c.check_property.result c.in-Err.fault c.check_property.ensures free (c.in-Err.ensures free) in
    ap passed (one_fault any_property (map view c.args.items.now) c.loop-index.index c.loop-index.invariant.0 (view c.index-items-index.result) c.in-Err.fault here (passed_err step (any_property (view c.index-items-index.result)) c.in-Err.fault found) c.loop-index.invariant.1)

pub loop-index-preserved : goal.loop-index-preserved
loop-index-preserved c =
    let here = at_item c.args.items.now c.loop-index.index c.index-items-index.result c.loop-index-test.true c.index-items-index.is in
    let step = item_step c.loop-index.index in
    let read = passed_ok step (any_property (view c.index-items-index.result)) (below_ok step _ c.check_property.result tt c.check_property.ensures c.in-Ok.ensures) in
    (c.loop-index.invariant.0 ++ read.0 ∷ [], one_more any_property (map view c.args.items.now) c.loop-index.index c.loop-index.invariant.0 (view c.index-items-index.result) read.0 here read.1 c.loop-index.invariant.1)
