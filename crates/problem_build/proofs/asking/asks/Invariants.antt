use Rattle.std.proofs.Common.{◌≡◌, map, take, ℕ, List}
use Rattle.cluster_objects.specs.declared.statuses.SubSpec.{SubSpec}
use Rattle.problem_build.specs.Asking as spec
use Rattle.problem_build.proofs.asking.asks.Given as goal

abbrev pub invariant-loop-subscription : goal.invariant-loop-subscription
invariant-loop-subscription l =
    l.found.items
    ≡ map (λ (subscription : List ℕ × SubSpec). spec.asked l.catalogs l.basis.tips subscription.1) (take l.subscription-index l.basis.subscriptions)
