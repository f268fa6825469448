use Rattle.std.proofs.Common.{ap, sym, ◌∙◌, ◌≤◌, length, arith}
use Rattle.derivation_check.proofs.MarkLemmas.{known_wiped, length_known}
use Rattle.derivation_check.proofs.marks.Marks.wipe.Goals as goal

pub returns : goal.returns
returns c =
    let a = c.loop-i.invariant in
    let far : c.len-i-end.result ≤ c.loop-i.i = omega arith in
    known_wiped c.loop-i.self-inside.marks.items c.loop-i.i c.len-i-end.result a.0 a.1 far (length c.args.self.now)
    (sym (ap length c.self.view_is) ∙ (length_known c.self.inside.stamp c.self.inside.marks.items ∙ omega (arith, c.len-i-end.ensures)))
