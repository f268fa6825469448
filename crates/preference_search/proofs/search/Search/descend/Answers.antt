use Rattle.std.proofs.Common.{◌≡◌, ℕ, List, [], ◌∷◌, ◌++◌, sym, subst}
use Rattle.op_constraints.specs.Walks.{IsBefore}
use Rattle.preference_search.specs.Lists.{IsNext}
use Rattle.op_constraints.proofs.Extending.{before-extended}
use Rattle.preference_search.proofs.Turning.{trying-begun}
use Rattle.preference_search.proofs.Going.{comes-later}
use Rattle.preference_search.proofs.search.Search.descend.Goals as goal

pub advance-requires-clause-trying : goal.advance-requires-clause-trying
advance-requires-clause-trying c =
    let s = c.args.self.now in
    let next = c.in-Some.next in
    let P : List ℕ → Type 0 = λ vs. IsNext c.args.problem.now vs next.owner next.place next.members.now in
    trying-begun c.args.problem.now c.args.budget s.log.lemmas s.numbers.items s.chosen.items s.bits.items s.steps.items next.owner next.place next.members.now
    c.requires.here (subst P c.as_slice.ensures.value c.in-Some.ensures.some) c.requires.undenied

pub returns-in-Turned : goal.returns-in-Turned
returns-in-Turned c =
    let numbers = c.args.self.now.numbers.items in
    let P : List ℕ → Type 0 = λ ns. IsBefore numbers ns in
    comes-later c.args.problem.now c.args.budget (λ later. later ≡ numbers ++ 0 ∷ []) (λ later. IsBefore numbers later) c.advance.new.self c.in-Turned.turn
    (λ later e. subst P (sym e) (before-extended numbers 0 []))
    (rw c.in-Turned.is at c.in_ok-turn-in-Some.ensures)
