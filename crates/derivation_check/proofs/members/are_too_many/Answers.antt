use Rattle.std.proofs.Common.{◌≡◌, ◌==◌, ◌+◌, true, length, ap, ◌∙◌, eq-eqb}
use Rattle.derivation_check.specs.Members.{listed_in}
use Rattle.derivation_check.proofs.MemberLemmas.{too_many_same}
use Rattle.derivation_check.proofs.members.are_too_many.Goals as goal

pub returns-clause-answer : goal.returns-clause-answer
returns-clause-answer c =
    let count : (length c.args.named.now == (c.args.most + 1)) ≡ true = eq-eqb (length c.args.named.now) (c.args.most + 1) c.if-named-most.false in
    let marked = c.list_all.ensures.listed ∙ ap (λ k. listed_in k c.args.members.now) c.clear.ensures in
    c.strike_all.ensures.struck
    ∙ too_many_same c.args.most (length c.args.marks.now) c.args.members.now c.args.named.now c.list_all.new.marks c.requires count marked
