use Rattle.op_constraints.specs.Walks.{IsBefore}
use Rattle.preference_search.specs.State.{IsPast}
use Rattle.preference_search.proofs.Going.{comes-later, past-before}
use Rattle.preference_search.proofs.search.Search.deny.Goals as goal

pub returns-in-Turned : goal.returns-in-Turned
returns-in-Turned c =
    let first = c.args.self.now.numbers.items in
    let now = c.loop-next.self.numbers.items in
    let came = c.loop-next.invariant.1 in
    comes-later c.args.problem.now c.args.budget (IsPast now) (λ later. IsBefore first later) c.pass_over.new.self c.in-Turned.turn
    (λ later p. past-before now first later came.0 came.1 p)
    (rw c.in-Turned.is at c.in_ok-next.ensures)
