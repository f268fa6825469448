use Rattle.std.proofs.Common.{◌≡◌, ◌++◌, take}
use Rattle.install_plan.specs.Plans.{added_steps}
use Rattle.install_plan.proofs.subscribing.add_subscriptions.Given as goal

abbrev pub invariant-loop-one : goal.invariant-loop-one
invariant-loop-one l =
    l.turned.items ≡ l.fn.turned.items ++ added_steps l.namespace l.subscriptions l.manual (take l.one-index l.taken)
