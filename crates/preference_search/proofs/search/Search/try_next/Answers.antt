use Rattle.std.proofs.Common.{arith}
use Rattle.preference_search.proofs.Going.{numbers-few, offered-low}
use Rattle.preference_search.proofs.search.Search.try_next.Goals as goal

pub overflow_cast-choice : goal.overflow_cast-choice
overflow_cast-choice c =
    let s = c.args.self.now in
    let few = numbers-few c.args.problem.now s.bits.items s.chosen.items s.numbers.items c.requires.trying.stands c.len-count.ensures.kept in
    omega (arith, few, c.len-choice.ensures, s.numbers.ok)

pub advance-requires-clause-within : goal.advance-requires-clause-within
advance-requires-clause-within c =
    let s = c.args.self.now in
    let low = offered-low c.args.problem.now s.chosen.items c.as_slice.result.now c.in-Some.next.members.now c.in-Some.next.owner c.in-Some.next.place c.args.number c.requires.walked.candidate
    c.as_slice.ensures.value c.in-Some.ensures.some c.requires.walked.offered in
    omega (arith, low)
