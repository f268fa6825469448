use Rattle.std.proofs.Common.{◌≡◌, ap, ◌∙◌, ℕ, sym, subst, get_or, length, arith}
use Rattle.std.specs.List.{list_all}
use Rattle.op_constraints.specs.Meets.{at}
use Rattle.derivations.specs.Clauses.{is_too_many}
use Rattle.preference_search.proofs.Members.{named-many, named-in, named-few}
use Rattle.preference_search.proofs.denials.too_many.Goals as goal

pub returns-then-len-most-clause-many : goal.returns-then-len-most-clause-many
returns-then-len-most-clause-many c =
    let m = c.member.inside.0 in
    let members = c.args.members.now in
    let i = c.loop-member.member-index in
    let P : ℕ → Type 0 = λ v. v ≡ get_or members i v in
    let is : m ≡ get_or members i m = subst P (sym c.member.view_is) c.member-item.is in
    let pushed = c.in_ok-push.ensures.items in
    ap (is_too_many c.args.most c.args.members.now) (c.from_vec.ensures ∙ pushed)
    ∙ named-many (at c.args.bits.now) c.args.most c.loop-member.member-index m c.args.members.now c.loop-member.named.items c.requires.distinct
    c.loop-member-test.true is c.if-bits-member.true c.loop-member.invariant.named c.loop-member.invariant.few (omega (arith, c.if-len-most.true, c.len.ensures, ap length pushed, c.push.new.self.ok))

pub returns-then-len-most-clause-inside : goal.returns-then-len-most-clause-inside
returns-then-len-most-clause-inside c =
    let m = c.member.inside.0 in
    let members = c.args.members.now in
    let i = c.loop-member.member-index in
    let P : ℕ → Type 0 = λ v. v ≡ get_or members i v in
    let is : m ≡ get_or members i m = subst P (sym c.member.view_is) c.member-item.is in
    let pushed = c.in_ok-push.ensures.items in
    ap (list_all (at c.args.bits.now)) (c.from_vec.ensures ∙ pushed)
    ∙ named-in (at c.args.bits.now) c.loop-member.member-index m c.args.members.now c.loop-member.named.items
    c.loop-member-test.true is c.if-bits-member.true c.loop-member.invariant.named

pub returns-clause-none : goal.returns-clause-none
returns-clause-none c =
    named-few (at c.args.bits.now) c.args.most c.loop-member.member-index c.args.members.now c.loop-member.named.items
    c.loop-member-test.false c.loop-member.invariant.named c.loop-member.invariant.few
