use Rattle.std.proofs.Common.{◌≡◌, ℕ, true, false, ◌==◌, sym, ap, ◌∙◌, subst, length}
use Rattle.op_constraints.specs.declared.Constraint.{Constraint}
use Rattle.op_constraints.specs.Meets.{at}
use Rattle.preference_search.specs.Denials.{IsAllowed}
use Rattle.preference_search.proofs.Giving.{some-allowed, conflict-answer, few-answer}
use Rattle.preference_search.proofs.denials.by_constraint.Goals as goal

pub returns-else-is_empty-clause-none : goal.returns-else-is_empty-clause-none
returns-else-is_empty-clause-none c =
    let set = at c.args.bits.now in
    let P : Constraint → Type 0 = λ k. IsAllowed set c.args.var k in
    subst P (sym c.in-Dependency.is) (some-allowed set c.args.var c.in-Dependency.members (λ e.
    let n : length c.as_slice.result.now ≡ 0 = ap length (c.as_slice.ensures ∙ e) in
    let bad : false ≡ true = c.if-is_empty.ensures ∙ ap (λ (k : ℕ). k == 0) n in cc))

pub returns-in-Conflict-clause-some : goal.returns-in-Conflict-clause-some
returns-in-Conflict-clause-some c =
    conflict-answer (at c.args.bits.now) c.args.var c.in-Conflict.other c.args.number c.args.constraint.now c.apart.result c.in-Conflict.is
    c.apart.ensures.lits c.apart.ensures.hints c.apart.ensures.some

pub returns-in-AtMost-clause-none : goal.returns-in-AtMost-clause-none
returns-in-AtMost-clause-none c =
    few-answer (at c.args.bits.now) c.args.var c.in-AtMost.most c.in-AtMost.members c.as_slice-in-AtMost.result.now c.args.constraint.now c.above.result c.in-AtMost.is
    c.as_slice-in-AtMost.ensures c.above.ensures.none
