use Rattle.std.proofs.Common.{sym, ap, ◌∙◌}
use Rattle.op_constraints.specs.Meets.{at}
use Rattle.preference_search.specs.Denials.{is_denied}
use Rattle.preference_search.proofs.Indexing.{numbered-denies, numbered-undenied, unnumbered-undenied}
use Rattle.preference_search.proofs.denials.by_numbered.Goals as goal

pub returns-in_ok-by_number-in-Some-clause-some : goal.returns-in_ok-by_number-in-Some-clause-some
returns-in_ok-by_number-in-Some-clause-some c = λ problem follows.
    let set = at c.args.bits.now in
    numbered-denies problem c.args.log.now.lemmas set c.in-Some.lemma.now c.args.number c.in_ok-by_number-in-Some.field-0 follows
    (sym c.in-Some.ensures)
    (ap (is_denied set) (sym c.as_slice.ensures) ∙ sym c.if-are_denied.ensures)
    (c.in_ok-by_number-in-Some.ensures.lits ∙ c.as_slice-then-are_denied.ensures)
    c.in_ok-by_number-in-Some.ensures.hints

pub returns-else-are_denied-clause-none : goal.returns-else-are_denied-clause-none
returns-else-are_denied-clause-none c =
    let set = at c.args.bits.now in
    numbered-undenied c.args.log.now.lemmas set c.in-Some.lemma.now c.args.number (sym c.in-Some.ensures) (ap (is_denied set) (sym c.as_slice.ensures) ∙ sym c.if-are_denied.ensures)

pub returns-in-None-clause-none : goal.returns-in-None-clause-none
returns-in-None-clause-none c = unnumbered-undenied c.args.log.now.lemmas (at c.args.bits.now) c.args.number (sym c.in-None.ensures)
