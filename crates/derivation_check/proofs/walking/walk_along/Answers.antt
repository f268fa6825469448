use Rattle.std.proofs.Common.{◌≡◌, sym, ap, ◌∙◌, true, nat_lt, length, get_or, drop, ◌+◌}
use Rattle.std.proofs.lemmas.Bool.{ltb-true}
use Rattle.op_constraints.specs.Walks.{Walked, taken, choice, walk_from}
use Rattle.derivation_check.specs.Faults.{walk_fault}
use Rattle.derivation_check.proofs.WalkingLemmas.{walk_fails, walk_goes, walk_on}
use Rattle.derivation_check.proofs.walking.walk_along.Goals as goal

pub returns-then-not-offers-clause-fault : goal.returns-then-not-offers-clause-fault
returns-then-not-offers-clause-fault c =
    sym (c.loop-i.invariant.rest
    ∙ walk_fails c.args.path.now.problem c.loop-i.path.problem c.loop-i.path.chosen c.args.numbers.now c.loop-i.i c.loop-i.invariant.problem c.loop-i-test.true
    (sym c.offers.ensures.offered ∙ c.if-not-offers.true))

pub loop-i-preserved : goal.loop-i-preserved
loop-i-preserved c =
    let number = get_or c.args.numbers.now c.loop-i.i 0 in
    let on : c.take.new.self ≡ taken c.loop-i.path number = c.take.ensures.taken ∙ ap (λ w. taken w number) c.offers.ensures.same in
    let in_list : nat_lt number (length (choice c.loop-i.path.problem c.loop-i.path.chosen)) ≡ true = sym c.offers.ensures.offered ∙ c.if-not-offers.false in
    let low = ltb-true number (length (choice c.loop-i.path.problem c.loop-i.path.chosen)) in_list in
    record {
      problem = ap (λ (w : Walked). w.problem) on ∙ c.loop-i.invariant.problem;
      rest = c.loop-i.invariant.rest
          ∙ (walk_goes c.args.path.now.problem c.loop-i.path.problem c.loop-i.path.chosen c.args.numbers.now c.loop-i.i c.loop-i.invariant.problem c.loop-i-test.true in_list
          ∙ ap (λ (w : Walked). walk_fault c.args.path.now.problem w.chosen (c.loop-i.i + 1) (drop (c.loop-i.i + 1) c.args.numbers.now)) (sym on));
      walked = c.loop-i.invariant.walked
          ∙ (walk_on c.args.path.now.problem c.loop-i.path.problem c.loop-i.path.chosen c.args.numbers.now c.loop-i.i c.loop-i.invariant.problem c.loop-i-test.true low
          ∙ ap (λ (w : Walked). walk_from c.args.path.now.problem w.chosen (drop (c.loop-i.i + 1) c.args.numbers.now)) (sym on));
    }
