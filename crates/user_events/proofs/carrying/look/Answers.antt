use Rattle.std.proofs.Common.{ap, ◌∙◌}
use Rattle.cluster_history.specs.History.{slot_in}
use Rattle.cluster_history.specs.Views.{View}
use Rattle.user_events.proofs.Showing.{shown_there}
use Rattle.user_events.proofs.carrying.look.Goals as goal

pub returns-in-Ok-snapshot-clause-slot : goal.returns-in-Ok-snapshot-clause-slot
returns-in-Ok-snapshot-clause-slot g c =
    ap (λ (v : View). slot_in v.slots c.args.key.now) c.in-Ok-snapshot.ensures.view
    ∙ shown_there (g.C.Cluster.history c.args.cluster.now) c.in-Ok.namespace c.args.key.now c.in-Ok.ensures
