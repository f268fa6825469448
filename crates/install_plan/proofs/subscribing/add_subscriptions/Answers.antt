use Rattle.std.proofs.Common.{◌++◌, ◌∷◌, [], List, ap, ◌∙◌}
use Rattle.install_plan.specs.Plans.{added_steps}
use Rattle.install_plan.specs.declared.turns.Turned.{Turned}
use Rattle.install_plan.proofs.Adding.{added_more}
use Rattle.install_plan.proofs.subscribing.add_subscriptions.Goals as goal

pub loop-one-preserved : goal.loop-one-preserved
loop-one-preserved c =
    let one = c.one-item.result in
    c.in_ok-add_subscription.ensures
    ∙ ap (λ (turned : List Turned). turned ++ added_steps c.args.namespace.now c.args.subscriptions.now c.is_manual-manual.result (one ∷ [])) c.loop-one.invariant
    ∙ added_more c.args.namespace.now c.args.subscriptions.now c.is_manual-manual.result c.args.turned.now.items c.args.taken.now c.loop-one.one-index one c.loop-one-test.true c.one-item.is
