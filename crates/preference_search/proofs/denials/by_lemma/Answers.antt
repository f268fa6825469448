use Rattle.std.proofs.Common.{◌≡◌, sym, ap, ◌∙◌, ◌<◌, List, subst, length, get_or}
use Rattle.op_constraints.specs.Meets.{at}
use Rattle.derivations.specs.declared.Lemma.{Lemma}
use Rattle.preference_search.specs.Denials.{is_denied}
use Rattle.preference_search.proofs.Logs.{lemma-denies}
use Rattle.preference_search.proofs.denials.by_lemma.Goals as goal

pub returns-then-are_denied-clause-some : goal.returns-then-are_denied-clause-some
returns-then-are_denied-clause-some c = λ problem follows.
    let set = at c.args.bits.now in
    let lemma = c.lemma-item.result in
    lemma-denies problem c.args.log.now.lemmas set lemma c.loop-number.number c.in_ok-by_number.field-0 follows
    (let P : List Lemma → Type 0 = λ ls. c.loop-number.number < length ls in subst P c.as_slice-lemma-items.ensures c.loop-number-test.true)
    (let P : List Lemma → Type 0 = λ ls. lemma ≡ get_or ls c.loop-number.number lemma in subst P c.as_slice-lemma-items.ensures c.lemma-item.is)
    (ap (is_denied set) (sym c.as_slice.ensures) ∙ sym c.if-are_denied.ensures)
    (c.in_ok-by_number.ensures.lits ∙ c.as_slice-then-are_denied.ensures)
    c.in_ok-by_number.ensures.hints
