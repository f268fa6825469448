use Rattle.std.proofs.Common.{sym, ap, ◌∙◌, subst}
use Rattle.cluster_history.specs.History.{position}
use Rattle.cluster_history.specs.Views.{view}
use Rattle.object_store.specs.Puts.{Snapshots}
use Rattle.log_store.specs.Store.{store_history}
use Rattle.log_store.proofs.Putting.{told_store}
use Rattle.log_store.proofs.log_cluster.LogClusterCluster.snapshot.Goals.{in-Ok, in-Err}
use Rattle.log_store.proofs.log_cluster.LogClusterCluster.snapshot.Goals as goal

pub returns-clause-view : goal.returns-clause-view
returns-clause-view g c =
    let s = c.self.inside in
    let now = c.args.self.now in
    let h = store_history (g.D.Disk.tells now.disk) (g.D.Disk.content now.disk) now.writes in
    let told = told_store g.D.Disk.tells g.D.Disk.content g.D.Disk.pending now s.disk s.limit s.gate s.ready s.store.1 c.self.view_is c.self.invariant.1 c.requires in
    elim c.match-view_of.branch [
      | in-Ok w ↦ subst (Snapshots h c.args.namespace.now) (sym w.result-is) (w.in-Ok.ensures.view ∙ ap (λ k. view k c.args.namespace.now (position k)) (sym told))
      | in-Err w ↦ subst (Snapshots h c.args.namespace.now) (sym w.result-is) tt
    ]
