use Rattle.std.proofs.Common.{◌+◌, map, sym, subst}
use Rattle.serde_json.specs.View.{view}
use Rattle.json_fields.specs.Faults.{item_step}
use Rattle.json_fields.proofs.Lists.{Reads, one_more, one_fault, at_item, below_ok, below_err}
use Rattle.json_fields.proofs.items.read_items.Goals as goal

pub returns-in-Err : goal.returns-in-Err
returns-in-Err g c =
    λ free.
    let here = at_item c.args.items.now c.loop-index.index c.index-items-index.result c.loop-index-test.true c.index-items-index.is in
    let reading = g.R.Reader.reading in
    one_fault reading _ c.loop-index.index c.loop-index.found.items (view c.index-items-index.result) c.in-Err.fault here
    (below_err (item_step c.loop-index.index) _ c.read.result c.in-Err.fault c.read.ensures free (c.in-Err.ensures free)) c.loop-index.invariant

pub loop-index-preserved : goal.loop-index-preserved
loop-index-preserved g c =
    let here = at_item c.args.items.now c.loop-index.index c.index-items-index.result c.loop-index-test.true c.index-items-index.is in
    let reading = g.R.Reader.reading in
    subst (Reads reading (map view c.args.items.now) (c.loop-index.index + 1)) (sym c.in-Ok-push.ensures.items)
    (one_more reading _ c.loop-index.index c.loop-index.found.items (view c.index-items-index.result) c.in-Ok.value here
    (below_ok (item_step c.loop-index.index) _ c.read.result c.in-Ok.value c.read.ensures c.in-Ok.ensures) c.loop-index.invariant)
