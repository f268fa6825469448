use Rattle.std.proofs.Common.{List, ap, sym, ◌∙◌}
use Rattle.cluster_history.specs.History.{Start, empty, after_all, state}
use Rattle.cluster_objects.specs.declared.objects.Write.{Write}
use Rattle.object_store.proofs.sure.SureCluster.new.Goals as goal

pub invariant_of-result : goal.invariant_of-result
unfolding state
invariant_of-result c = c.new-2.ensures.empty ∙ sym (ap (λ (xs : List Write). state (after_all (Start empty) xs)) c.new.ensures.items)
