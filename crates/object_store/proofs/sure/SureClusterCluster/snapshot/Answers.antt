use Rattle.std.proofs.Common.{List, length, ℕ, ap, sym, subst, ◌∙◌}
use Rattle.cluster_history.specs.History.{History, Start, empty, after_all, position, state}
use Rattle.cluster_objects.specs.declared.objects.Write.{Write}
use Rattle.object_store.specs.Puts.{Snapshots}
use Rattle.object_store.proofs.Appending.{position-kept}
use Rattle.object_store.proofs.Showing.{whole_view}
use Rattle.object_store.proofs.sure.SureClusterCluster.snapshot.Goals.{in-Ok, in-Err}
use Rattle.object_store.proofs.sure.SureClusterCluster.snapshot.Goals as goal

pub returns-clause-view : goal.returns-clause-view
returns-clause-view c =
    let h = ap (λ (p : ℕ × List Write). after_all (Start empty) p.1) c.self.view_is in
    let size = ap length c.as_slice.ensures.value ∙ sym (position-kept c.self.inside.writes.items) ∙ ap (λ (g : History). position g) h in
    elim c.match-snapshot_of.branch [
      | in-Ok w ↦
          subst (Snapshots (after_all (Start empty) c.args.self.now.1) c.args.namespace.now) (sym w.result-is)
          (w.in-Ok.ensures ∙ whole_view (after_all (Start empty) c.args.self.now.1) c.args.namespace.now (length c.as_slice.result.now) c.self.inside.slots.entries size (c.self.invariant ∙ ap state h))
      | in-Err w ↦ subst (Snapshots (after_all (Start empty) c.args.self.now.1) c.args.namespace.now) (sym w.result-is) tt
    ]
