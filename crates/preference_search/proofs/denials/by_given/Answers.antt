use Rattle.std.proofs.Common.{List, subst}
use Rattle.op_constraints.specs.declared.Constraint.{Constraint}
use Rattle.op_constraints.specs.Meets.{at}
use Rattle.preference_search.specs.Denials.{IsDeniedByOne}
use Rattle.preference_search.proofs.Giving.{given-is-denial}
use Rattle.preference_search.proofs.denials.by_given.Goals as goal

pub returns-in-Some-clause-some : goal.returns-in-Some-clause-some
returns-in-Some-clause-some c = λ log.
    let P : List Constraint → Type 0 = λ cs. IsDeniedByOne (at c.args.bits.now) c.loop-index.index cs c.in-Some.found in
    given-is-denial c.args.problem.now log c.args.bits.now c.loop-index.index c.in-Some.found c.requires.bits
    (subst P c.constraints.ensures (rw c.in-Some.is at c.in_ok-found.ensures.some))
