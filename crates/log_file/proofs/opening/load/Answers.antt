use Rattle.std.proofs.Common.{ℕ, Result, sym, ap, ◌∙◌, subst}
use Rattle.payloads.specs.Laws.{AreBytes}
use Rattle.cluster_file.specs.Files.{stands}
use Rattle.object_store.specs.declared.cluster.ClusterFault.{ClusterFault}
use Rattle.log_file.specs.Folding.{Folds}
use Rattle.log_file.proofs.Loading.{loaded, still_begun}
use Rattle.log_file.proofs.opening.load.Goals as goal

pub returns-in-Ok-fold_content-clause-opened : goal.returns-in-Ok-fold_content-clause-opened
returns-in-Ok-fold_content-clause-opened g c =
    let folds = subst (λ (r : Result ℕ ClusterFault). Folds (stands c.as_slice-content.result.now) c.fold_content.new.store.1 r) c.in-Ok-fold_content.is c.fold_content.ensures.folds in
    loaded (g.D.Disk.tells c.read_content.new.disk) (g.D.Disk.content c.read_content.new.disk) (g.D.Disk.pending c.read_content.new.disk)
    c.in-Ok.bytes.items c.fold_content.new.store.1 c.in-Ok-fold_content.gate
    (subst AreBytes c.as_slice-content.ensures.value c.are_bytes.ensures)
    (ap stands (sym c.as_slice-content.ensures.value) ∙ folds)
    (λ tell.
    let told = sym c.in-Ok.ensures.tells ∙ tell in (
      c.in-Ok.ensures.bytes told (c.requires.len told) ∙ sym c.in-Ok.ensures.same,
      still_begun (g.D.Disk.content c.args.disk.now) (g.D.Disk.content c.read_content.new.disk) (g.D.Disk.pending c.args.disk.now) (g.D.Disk.pending c.read_content.new.disk)
          c.in-Ok.ensures.same c.in-Ok.ensures.pending (c.requires.begun told),
    ))
