use Rattle.std.proofs.Common.{◌≡◌, ◌≤◌, ◌++◌, [], ◌∷◌, drop, length}
use Rattle.preference_search.specs.Searching.{ArePassedOver}
use Rattle.preference_search.proofs.Hints.{AreOut}
use Rattle.preference_search.proofs.search.Search.conclude.Given as goal

abbrev pub invariant-loop-left : goal.invariant-loop-left
invariant-loop-left l = record {
  passed : ArePassedOver l.problem l.initial.self.log.lemmas (l.initial.self.numbers.items ++ l.left ∷ []) l.self.steps.items;
  out : AreOut l.problem l.initial.self.log.lemmas l.initial.self.chosen.items (drop l.left l.members) l.hints.items;
  low : l.left ≤ length l.members;
  log : l.self.log ≡ l.initial.self.log;
  numbers : l.self.numbers.items ≡ l.initial.self.numbers.items;
  chosen : l.self.chosen.items ≡ l.initial.self.chosen.items;
  bits : l.self.bits.items ≡ l.initial.self.bits.items;
}

abbrev pub decreases-loop-left : goal.decreases-loop-left
decreases-loop-left l = l.left
