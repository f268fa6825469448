use Rattle.std.proofs.Common.{◌+◌, map, sym, subst}
use Rattle.serde_json.specs.View.{view}
use Rattle.json_fields.specs.Faults.{item_step}
use Rattle.fbc_read.specs.Blobs.{deprecation}
use Rattle.json_fields.proofs.Lists.{Reads, one_more, one_fault, at_item, below_ok, below_err}
use Rattle.fbc_read.proofs.schemas.read_deprecations.Goals as goal

pub returns-in-Err : goal.returns-in-Err
returns-in-Err c =
    λ free.
    let here = at_item c.args.items.now c.loop-index.index c.index-items-index.result c.loop-index-test.true c.index-items-index.is in
    one_fault (deprecation c.args.owner.now) (map view c.args.items.now) c.loop-index.index c.loop-index.found.items (view c.index-items-index.result) c.in-Err.fault here
    (below_err (item_step c.loop-index.index) _ c.deprecation.result c.in-Err.fault c.deprecation.ensures free (c.in-Err.ensures free)) c.loop-index.invariant

pub loop-index-preserved : goal.loop-index-preserved
loop-index-preserved c =
    let here = at_item c.args.items.now c.loop-index.index c.index-items-index.result c.loop-index-test.true c.index-items-index.is in
    subst (Reads (deprecation c.args.owner.now) (map view c.args.items.now) (c.loop-index.index + 1)) (sym c.in-Ok-push.ensures.items)
    (one_more (deprecation c.args.owner.now) (map view c.args.items.now) c.loop-index.index c.loop-index.found.items (view c.index-items-index.result) c.in-Ok.value here
    (below_ok (item_step c.loop-index.index) _ c.deprecation.result c.in-Ok.value c.deprecation.ensures c.in-Ok.ensures) c.loop-index.invariant)
