use Rattle.std.proofs.Common.{ℕ, List, ap, ◌∙◌}
use Rattle.cluster_objects.specs.declared.objects.Write.{Write}
use Rattle.cluster_history.specs.History.{Slots, Start, empty, after_all, slot, slot_in, state}
use Rattle.object_store.proofs.sure.SureCluster.version.Goals as goal

pub returns : goal.returns
unfolding slot
returns c = c.version_at.ensures ∙ ap (λ (es : Slots). (slot_in es c.args.key.now).version) (c.self.invariant ∙ ap (λ (p : ℕ × List Write). state (after_all (Start empty) p.1)) c.self.view_is)
