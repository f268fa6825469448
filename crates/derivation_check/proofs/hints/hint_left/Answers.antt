use Rattle.std.proofs.Common.{◌≡◌, Some, Ok, length, take, sym, ap, ◌∙◌, subst}
use Rattle.std.specs.Option.{option_copied}
use Rattle.op_constraints.specs.Meets.{constraint_at, IsWithin}
use Rattle.derivations.specs.Follows.{clause_of, clauses}
use Rattle.derivation_check.specs.declared.scan.Left.TheVariants.{Nothing}
use Rattle.derivation_check.specs.Scan.{scanned, left_of}
use Rattle.derivation_check.proofs.Denied.{constraint_within}
use Rattle.derivation_check.proofs.HintLemmas.{earlier_left, later_left}
use Rattle.derivation_check.proofs.hints.hint_left.Goals as goal

pub given_left-requires : goal.given_left-requires
given_left-requires c =
    let there : constraint_at c.args.problem.now c.in-Given.var c.in-Given.constraint ≡ Some c.in-Some.found.now = sym c.find.ensures ∙ ap option_copied c.in-Some.is in
    let within = constraint_within (length c.args.problem.now) c.args.problem.now c.in-Given.var c.in-Given.constraint c.in-Some.found.now c.requires.closed there in
    subst (λ n. IsWithin n c.in-Some.found.now) (sym c.requires.size) within.1

pub returns-then-at-number-clause-left : goal.returns-then-at-number-clause-left
returns-then-at-number-clause-left c =
    ap (λ o. Ok o) (c.scan.ensures ∙ ap (λ lits. scanned c.args.marks.now Nothing lits) c.as_slice.ensures)
    ∙ (earlier_left c.args.problem.now c.args.lemmas.now c.args.number c.in-Lemma.at c.index-lemmas-at.result c.args.marks.now c.if-at-number.true c.requires.number
    ∙ ap (λ hint. left_of c.args.marks.now (clause_of c.args.problem.now (take c.args.number (clauses c.args.lemmas.now)) hint)) (sym c.in-Lemma.is))

pub returns-else-at-number-clause-left : goal.returns-else-at-number-clause-left
returns-else-at-number-clause-left c =
    later_left c.args.problem.now c.args.lemmas.now c.args.number c.in-Lemma.at c.args.marks.now c.if-at-number.false
    ∙ ap (λ hint. left_of c.args.marks.now (clause_of c.args.problem.now (take c.args.number (clauses c.args.lemmas.now)) hint)) (sym c.in-Lemma.is)
