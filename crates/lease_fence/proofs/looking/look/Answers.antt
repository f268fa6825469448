use Rattle.std.proofs.Common.{◌≡◌, true, ap, ◌∙◌}
use Rattle.cluster_history.specs.History.{slot_in}
use Rattle.cluster_history.specs.Views.{View, is_visible}
use Rattle.cluster_objects.specs.declared.keys.Key.{Key}
use Rattle.lease_fence.proofs.Showing.{shown_there, seen_there}
use Rattle.lease_fence.proofs.looking.look.Goals as goal

pub returns-in-Ok-snapshot-clause-slot : goal.returns-in-Ok-snapshot-clause-slot
returns-in-Ok-snapshot-clause-slot g c =
    let h = g.C.Cluster.history c.args.cluster.now in
    let visible : is_visible c.args.namespace.now c.in-Ok.key ≡ true =
    ap (λ (k : Key). is_visible c.args.namespace.now k) c.in-Ok.ensures ∙ seen_there c.args.namespace.now c.args.role in
    ap (λ (v : View). slot_in v.slots c.in-Ok.key) c.in-Ok-snapshot.ensures.view
    ∙ shown_there h c.args.namespace.now c.in-Ok.key visible
