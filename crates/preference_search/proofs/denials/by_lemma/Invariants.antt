use Rattle.std.proofs.Common.{◌≡◌, false, take}
use Rattle.std.specs.List.{AllByRecursion}
use Rattle.op_constraints.specs.Meets.{at}
use Rattle.derivations.specs.Follows.{clauses}
use Rattle.preference_search.specs.Denials.{is_denied}
use Rattle.preference_search.proofs.denials.by_lemma.Given as goal

abbrev pub invariant-loop-number : goal.invariant-loop-number
invariant-loop-number l = AllByRecursion (λ clause. is_denied (at l.bits) clause ≡ false) (clauses (take l.number l.log.lemmas))
