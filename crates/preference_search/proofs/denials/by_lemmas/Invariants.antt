use Rattle.std.proofs.Common.{◌≡◌, ℕ, ◌<◌, false, List, Some, slice_get}
use Rattle.op_constraints.specs.declared.Lit.{Lit}
use Rattle.op_constraints.specs.Meets.{at}
use Rattle.derivations.specs.Follows.{clauses}
use Rattle.preference_search.specs.Denials.{is_denied}
use Rattle.preference_search.proofs.denials.by_lemmas.Given as goal

abbrev pub invariant-loop-number : goal.invariant-loop-number
invariant-loop-number l = (i number : ℕ) (clause : List Lit) → i < l.number-index → slice_get l.numbers i ≡ Some number → slice_get (clauses l.log.lemmas) number ≡ Some clause → is_denied (at l.bits) clause ≡ false
