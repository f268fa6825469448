use Rattle.std.proofs.Common.{refl}
use Rattle.olm_disk.proofs.Told.{sync_durable, sync_pending, sync_content, sync_time}
use Rattle.olm_disk.proofs.mem_disk.MemDiskDisk.TheImpl.Goals as goal

pub sync-tells : goal.sync-tells
sync-tells c = record {
  durable = λ told. sync_durable c.args.self.now c.new.self.now c.result c.ensures.ok;
  still_pending = λ told. sync_pending c.args.self.now c.new.self.now c.result c.ensures.failed;
  tells = refl;
  content = sync_content c.args.self.now c.new.self.now c.result c.ensures.ok c.ensures.failed;
  time = sync_time c.args.self.now c.new.self.now c.result c.ensures.ok c.ensures.failed;
  cause = c.ensures.cause;
}
