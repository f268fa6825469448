use Rattle.log_store.proofs.Opening.{always_history}
use Rattle.log_store.proofs.log_cluster.LogCluster.start.Goals as goal

pub returns-in-Ok-clause-still : goal.returns-in-Ok-clause-still
returns-in-Ok-clause-still g c =
    always_history (g.D.Disk.tells c.open_file.new.disk) (g.D.Disk.content c.open_file.new.disk) c.in-Ok.field-0.store.1 c.in-Ok.ensures.opened.are_writes
