use Rattle.std.proofs.Common.{◌≡◌, ◌++◌, List, ℕ, map, drop}
use Rattle.problem_build.specs.declared.names.VarName.TheVariants as variable
use Rattle.cluster_objects.specs.declared.statuses.SubSpec.{SubSpec}
use Rattle.problem_build.proofs.names.add_subscriptions.Given as goal

abbrev pub invariant-loop-subscription : goal.invariant-loop-subscription
invariant-loop-subscription l =
    l.names.items ++ map (λ (s : List ℕ × SubSpec). variable.Subscription s.0) (drop l.subscription-index l.subscriptions) ≡ l.initial.names.items ++ map (λ (s : List ℕ × SubSpec). variable.Subscription s.0) l.subscriptions
