use Rattle.std.proofs.Common.{◌+◌, suc, map, drop, drop-cons, sym, ap, ◌∙◌}
use Rattle.derivations.specs.Accepted.{pairs_from}
use Rattle.derivation_check.specs.Faults.{pair_of, pairs_fault}
use Rattle.derivation_check.proofs.PairLemmas.{left_over, drop_end}
use Rattle.derivation_check.proofs.pairs.unpaired.Goals as goal

pub returns-in-Some : goal.returns-in-Some
returns-in-Some c =
    let given = drop c.loop-i.next (map pair_of c.args.steps.now) in
    sym (c.loop-i.invariant.same
    ∙ (ap (λ numbers. pairs_fault c.loop-i.next (pairs_from c.loop-i.i numbers) given) (drop-cons c.args.numbers.now c.loop-i.i 0 c.loop-i-test.true)
    ∙ c.in-Some.ensures.some (pairs_from (c.loop-i.i + 1) (drop (suc c.loop-i.i) c.args.numbers.now))))

pub returns-then-next-steps : goal.returns-then-next-steps
returns-then-next-steps c =
    let given = drop c.loop-i.next (map pair_of c.args.steps.now) in
    sym (c.loop-i.invariant.same
    ∙ (ap (λ numbers. pairs_fault c.loop-i.next (pairs_from c.loop-i.i numbers) given) (drop_end c.args.numbers.now c.loop-i.i c.loop-i-test.false)
    ∙ left_over c.args.steps.now c.loop-i.next c.if-next-steps.true))
