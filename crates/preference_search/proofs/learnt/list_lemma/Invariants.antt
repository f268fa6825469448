use Rattle.std.proofs.Common.{◌≡◌, ℕ, true, take}
use Rattle.derivations.specs.Clauses.{negative, is_in}
use Rattle.preference_search.specs.Naming.{IsListed, IsGrown}
use Rattle.preference_search.proofs.learnt.list_lemma.Given as goal

abbrev pub invariant-loop-lit : goal.invariant-loop-lit
invariant-loop-lit l = record {
  listed : (w : ℕ) → is_in (take l.lit-index l.lits) (negative w) ≡ true → IsListed l.naming w l.number;
  grown : IsGrown l.initial.naming l.naming;
}
