use Rattle.log_store.proofs.Crashing.{durable_now, leaves_now}
use Rattle.log_store.proofs.log_cluster.LogCluster.is_ready.Goals as goal

pub returns-clause-durable : goal.returns-clause-durable
returns-clause-durable g c told is =
    let s = c.self.inside in
    (durable_now g.D.Disk.tells g.D.Disk.content g.D.Disk.pending g.D.Disk.moment g.D.Disk.left_since c.args.self.now s.disk s.limit s.gate s.ready s.store.1
    c.self.view_is c.self.invariant.1 told is).durable

pub returns-clause-crash : goal.returns-clause-crash
returns-clause-crash g c told is =
    let s = c.self.inside in
    leaves_now g.D.Disk.tells g.D.Disk.content g.D.Disk.pending g.D.Disk.moment g.D.Disk.left_since c.args.self.now s.disk s.limit s.gate s.ready s.store.1
    c.self.view_is c.self.invariant.1 (λ image left. g.met.D.Disk.only_now s.disk image left) told is
