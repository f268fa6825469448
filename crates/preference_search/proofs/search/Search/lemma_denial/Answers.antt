use Rattle.std.proofs.Common.{◌<◌, ◌-◌, ℕ, List, length, slice_get, vec_len, ap, ◌∙◌, arith}
use Rattle.op_constraints.specs.Meets.{at}
use Rattle.preference_search.proofs.Arriving.{some-items, lemma-none}
use Rattle.preference_search.proofs.search.Search.lemma_denial.Goals as goal

pub returns-in-Some-clause-none : goal.returns-in-Some-clause-none
returns-in-Some-clause-none c =
    let s = c.args.self.now in
    let some : 0 < length s.numbers.items = (let n = some-items (vec_len s.numbers) c.if-is_empty.ensures in omega (arith, n, s.numbers.ok)) in
    lemma-none c.args.problem.now s.log.lemmas s.chosen.items s.numbers.items (at c.as_slice-bits.result.now) c.in-Some.var.now c.denial_naming.result
    some (c.in-Some.ensures.value ∙ ap (λ (vs : List ℕ). slice_get vs (length vs - 1)) c.deref.ensures.value) c.requires.before
    (ap at c.as_slice-bits.ensures.value ∙ c.requires.stands.same) c.denial_naming.ensures.none
