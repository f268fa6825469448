use Rattle.std.proofs.Common.{◌≡◌, ◌++◌, map, drop}
use Rattle.problem_build.specs.Shown.{shown_choices}
use Rattle.problem_build.specs.Variables as spec
use Rattle.problem_build.proofs.rows.add_subscriptions.Given as goal

abbrev pub invariant-loop-asked : goal.invariant-loop-asked
invariant-loop-asked l =
    l.rows.items ++ map (spec.of_subscription (shown_choices l.pool)) (drop l.asked-index l.pool.asks.now)
    ≡ l.initial.rows.items ++ map (spec.of_subscription (shown_choices l.pool)) l.pool.asks.now
