use Rattle.std.proofs.Common.{◌<◌, ◌-◌, ℕ, List, length, slice_get, vec_len, ap, ◌∙◌, arith}
use Rattle.op_constraints.specs.Meets.{at}
use Rattle.preference_search.proofs.Arriving.{some-items, given-none}
use Rattle.preference_search.proofs.search.Search.given_denial.Goals as goal

pub returns-in-Some-list-clause-none : goal.returns-in-Some-list-clause-none
returns-in-Some-list-clause-none c =
    let s = c.args.self.now in
    let some : 0 < length s.numbers.items = (let n = some-items (vec_len s.numbers) c.if-is_empty.ensures in omega (arith, n, s.numbers.ok)) in
    given-none c.args.problem.now s.log.lemmas c.args.places.now c.in-Some-list.list.now s.chosen.items s.numbers.items (at c.as_slice-bits.result.now) c.in-Some.var.now c.by_places.result
    some (c.in-Some.ensures.value ∙ ap (λ (vs : List ℕ). slice_get vs (length vs - 1)) c.deref.ensures.value) c.requires.before c.requires.indexed
    c.in-Some-list.ensures.within c.in-Some-list.ensures.some (ap at c.as_slice-bits.ensures.value ∙ c.requires.stands.same) c.by_places.ensures.none
