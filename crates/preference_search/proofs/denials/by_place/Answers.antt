use Rattle.std.proofs.Common.{sym}
use Rattle.preference_search.proofs.Indexing.{within-found, distinct-found, given-answer}
use Rattle.preference_search.proofs.denials.by_place.Goals as goal

pub by_constraint-requires-clause-within : goal.by_constraint-requires-clause-within
by_constraint-requires-clause-within c =
    within-found c.args.problem.now c.args.bits.now c.args.owner c.args.number c.in-Some.constraint.now c.requires.closed c.requires.bits (sym c.in-Some.ensures)

pub by_constraint-requires-clause-distinct : goal.by_constraint-requires-clause-distinct
by_constraint-requires-clause-distinct c =
    distinct-found c.args.problem.now c.args.owner c.args.number c.in-Some.constraint.now c.len-count.ensures.kept (sym c.in-Some.ensures)

pub returns-in-Some-clause-some : goal.returns-in-Some-clause-some
returns-in-Some-clause-some c =
    given-answer c.args.problem.now c.args.bits.now c.args.owner c.args.number c.in-Some.constraint.now c.by_constraint.result c.requires.bits (sym c.in-Some.ensures) c.by_constraint.ensures.some
