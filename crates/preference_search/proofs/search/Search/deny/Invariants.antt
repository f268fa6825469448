use Rattle.std.proofs.Common.{◌≡◌, ◌++◌, ℕ, List, length}
use Rattle.preference_search.specs.State.{IsDeniedAt}
use Rattle.preference_search.proofs.search.Search.deny.Given as goal

abbrev pub invariant-loop-next : goal.invariant-loop-next
invariant-loop-next l = IsDeniedAt l.problem l.fn.budget l.self l.denial × ((rest : List ℕ) × (l.initial.self.numbers.items ≡ l.self.numbers.items ++ rest))

abbrev pub decreases-loop-next : goal.decreases-loop-next
decreases-loop-next l = length l.self.numbers.items
