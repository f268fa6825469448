use Rattle.std.proofs.Common.{◌≡◌, ◌++◌}
use Rattle.preference_search.proofs.search.append.Given as goal

abbrev pub invariant-loop-hint : goal.invariant-loop-hint
invariant-loop-hint l = l.hints.items ≡ l.initial.hints.items ++ l.yielded
