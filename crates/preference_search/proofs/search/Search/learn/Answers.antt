use Rattle.std.proofs.Common.{ℕ, List, refl, arith}
use Rattle.preference_search.proofs.Turning.{closed-spent, closed-learnt}
use Rattle.preference_search.proofs.search.Search.learn.Goals as goal

pub returns-then-len-budget : goal.returns-then-len-budget
returns-then-len-budget c = λ number.
    let s = c.args.self.now in
    let r = c.requires.closing in
    let g = closed-spent c.args.problem.now c.args.budget s.log.lemmas s.numbers.items s.chosen.items s.bits.items r.number c.args.refutation
    c.requires.some (omega (arith, c.len.ensures, c.if-len-budget.true)) r.stands r.sound r.none_before r.tried r.lits r.follows in
    record { sound = r.sound; spent = g.spent; first_fails = g.first_fails; wide = g.wide }

pub returns : goal.returns
returns c = λ number.
    let s = c.args.self.now in
    let r = c.requires.closing in
    let l = closed-learnt c.args.problem.now c.args.budget s.log.lemmas c.push.new.self.lemmas s.numbers.items s.chosen.items s.bits.items s.steps.items r.number c.in_ok-number.number
    c.as_slice-lits.result.now c.as_slice.result.now c.args.refutation c.in_ok-by_number.field-0
    r.stands r.small r.sound r.passed r.none_before r.tried r.undenied r.lits r.follows (omega (arith, c.len.ensures, c.if-len-budget.false))
    c.as_slice-lits.ensures c.as_slice.ensures c.in_ok-number.ensures.added c.in_ok-number.ensures.number c.in_ok-by_number.ensures.lits c.in_ok-by_number.ensures.hints in
    (record { after = r.number; count = l.count; here = l.here; enough = l.enough; denial = l.denial }, refl {A = List ℕ})
