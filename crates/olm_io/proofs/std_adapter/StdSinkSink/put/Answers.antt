use Rattle.std.proofs.Common.{◌++◌, take}
use Rattle.std.proofs.KnownBytes.{Appends-trans}
use Rattle.olm_io.proofs.Told.{taken_on}
use Rattle.olm_io.proofs.std_adapter.StdSinkSink.put.Goals as goal

pub loop-rest-preserved : goal.loop-rest-preserved
loop-rest-preserved g c = (
  c.loop-rest.invariant.0 ++ take c.in-Ok.count c.loop-rest.rest.now,
  taken_on c.args.piece.now c.loop-rest.invariant.0 c.loop-rest.rest.now c.in-Ok.count c.in-Ok.ensures.bound c.loop-rest.invariant.1,
  c.loop-rest.invariant.2,
  Appends-trans _ _ _ _ _ c.loop-rest.invariant.3 c.in-Ok.ensures.bytes,
)
