use Rattle.std.proofs.Common.{refl, ap}
use Rattle.olm_disk.specs.Kept.{Kept}
use Rattle.olm_disk.proofs.Told.{sure_durable, sure_pending, sure_time, sure_cause}
use Rattle.olm_disk.proofs.sure_disk.SureDiskDisk.TheImpl.Goals as goal

pub sync-tells : goal.sync-tells
sync-tells c = record {
  durable = λ told. sure_durable c.args.self.now c.new.self.now c.result c.ensures.ok;
  still_pending = λ told. sure_pending c.result _ c.ensures.sure;
  tells = refl;
  content = ap (λ (k : Kept). k.content) c.ensures.ok.now;
  time = sure_time c.args.self.now c.new.self.now c.ensures.ok;
  cause = sure_cause c.result c.ensures.sure;
}
