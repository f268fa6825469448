use Rattle.std.proofs.Common.{sym, subst}
use Rattle.olm_disk.specs.Disk.{LeavesOnly}
use Rattle.cluster_file.specs.Files.{damage_in}
use Rattle.object_store.specs.Puts.{IsSound}
use Rattle.log_store.specs.Crashes.{PutLeaves}
use Rattle.log_store.specs.Store.{LogClusterState}
use Rattle.log_store.proofs.Crashing.{leaves_nothing, told_writes}
use Rattle.log_store.proofs.Putting.{puts_nothing}
use Rattle.log_store.proofs.log_cluster.LogClusterCluster.put.Goals as goal

pub returns-in-Err-clause-puts : goal.returns-in-Err-clause-puts
returns-in-Err-clause-puts g c =
    let s = c.self.inside in
    (puts_nothing g.D.Disk.tells g.D.Disk.content g.D.Disk.pending g.D.Disk.faults c.args.self.now s.disk s.limit s.gate s.ready s.store.1 c.args.write c.in-Err.answer
    c.self.view_is c.self.invariant.1 c.requires c.in-Err.ensures.refused c.in-Err.ensures.answered).puts

pub returns-in-Err-clause-sound : goal.returns-in-Err-clause-sound
returns-in-Err-clause-sound g c =
    subst (λ (s : LogClusterState g.row.D.Denot). IsSound (g.D.Disk.tells s.disk) (damage_in (g.D.Disk.content s.disk))) c.self.view_is c.self.invariant.2

pub returns-in-Ok-clause-crash : goal.returns-in-Ok-clause-crash
returns-in-Ok-clause-crash g c told =
    let s = c.self.inside in
    subst (λ h. LeavesOnly g.D.Disk.moment g.D.Disk.left_since c.args.self.now.disk c.add.new.self.disk (PutLeaves h c.args.write c.add.result))
    (sym (told_writes g.D.Disk.tells g.D.Disk.content g.D.Disk.pending g.D.Disk.moment g.D.Disk.left_since c.args.self.now s.disk s.limit s.gate s.ready s.store.1 c.self.view_is c.self.invariant.1 c.requires))
    (c.add.ensures.crash told)

pub returns-in-Err-clause-crash : goal.returns-in-Err-clause-crash
returns-in-Err-clause-crash g c told =
    let s = c.self.inside in
    subst (λ h. LeavesOnly g.D.Disk.moment g.D.Disk.left_since c.args.self.now.disk c.args.self.now.disk (PutLeaves h c.args.write c.in-Err.answer))
    (sym (told_writes g.D.Disk.tells g.D.Disk.content g.D.Disk.pending g.D.Disk.moment g.D.Disk.left_since c.args.self.now s.disk s.limit s.gate s.ready s.store.1 c.self.view_is c.self.invariant.1 c.requires))
    (leaves_nothing g.D.Disk.tells g.D.Disk.content g.D.Disk.pending g.D.Disk.moment g.D.Disk.left_since c.args.self.now s.disk s.limit s.gate s.ready s.store.1 c.args.write c.in-Err.answer
    c.self.view_is c.self.invariant.1 c.requires (λ image left. g.met.D.Disk.only_now s.disk image left) told)
