use Rattle.std.proofs.Common.{◌≡◌, ◌+◌, ◌≤◌, ◌<◌, Some, None, sym, ap, ◌∙◌, subst, take, drop, map, length, get_or, arith, rules}
use Rattle.std.proofs.lemmas.List.{length-drop, drop-drop}
use Rattle.op_constraints.specs.Walks.{Walked, taken, choice, walk_from}
use Rattle.derivations.specs.Accepted.{pairs_from}
use Rattle.derivation_check.specs.Faults.{pair_of, denies_fault}
use Rattle.derivation_check.proofs.PairLemmas.{drop_end}
use Rattle.derivation_check.proofs.WalkingLemmas.{cut_at, split_at, denied_split, denied_stop, goes_on, stands_on, walk_on, no_steps, found_between}
use Rattle.derivation_check.proofs.denials.denied_else.Goals as goal

pub slice_bounds-choice_denied-end : goal.slice_bounds-choice_denied-end
slice_bounds-choice_denied-end c =
    let number = get_or c.args.numbers.now c.loop-number.number-index 0 in
    let part = cut_at c.args.numbers.now c.args.steps.now c.loop-number.number-index c.loop-number.next c.loop-number-test.true c.loop-number.invariant.paired in
    let room : number ≤ length (drop c.loop-number.next c.args.steps.now) = part.room in
    let within : c.loop-number.next + number ≤ length c.args.steps.now = omega (arith, room, length-drop c.loop-number.next c.args.steps.now, c.loop-number.invariant.within) in
    search rules

pub returns-in-Some-clause-fault : goal.returns-in-Some-clause-fault
returns-in-Some-clause-fault c =
    let P = c.args.path.now.problem in
    let i = c.loop-number.number-index in
    let next = c.loop-number.next in
    let number = get_or c.args.numbers.now i 0 in
    let chosen = c.loop-number.path.chosen in
    let part = cut_at c.args.numbers.now c.args.steps.now i next c.loop-number-test.true c.loop-number.invariant.paired in
    let found = found_between P c.loop-number.path.problem chosen c.args.steps.now next number (Some c.in-Some.fault) c.loop-number.invariant.problem (sym c.choice_denied.ensures.fault ∙ c.in-Some.is) in
    sym (c.loop-number.invariant.rest
    ∙ (ap (λ steps. denies_fault P c.args.numbers.now steps) (split_at c.args.steps.now next number)
    ∙ denied_stop P c.args.numbers.now chosen i (take number (drop next c.args.steps.now)) (drop (next + number) c.args.steps.now) c.in-Some.fault c.loop-number.invariant.stands part.of_choice found))

pub take-requires : goal.take-requires
take-requires c =
    let low = goes_on c.args.path.now.problem c.loop-number.path.problem c.loop-number.path.chosen c.args.numbers.now c.loop-number.number-index c.loop-number.invariant.problem c.loop-number-test.true c.loop-number.invariant.onward in
    subst (λ (w : Walked). get_or c.args.numbers.now c.loop-number.number-index 0 < length (choice w.problem w.chosen)) (sym c.choice_denied.ensures.same) low

pub loop-number-preserved : goal.loop-number-preserved
loop-number-preserved c =
    let P = c.args.path.now.problem in
    let i = c.loop-number.number-index in
    let next = c.loop-number.next in
    let number = get_or c.args.numbers.now i 0 in
    let chosen = c.loop-number.path.chosen in
    let part = cut_at c.args.numbers.now c.args.steps.now i next c.loop-number-test.true c.loop-number.invariant.paired in
    let room : number ≤ length (drop next c.args.steps.now) = part.room in
    let low = goes_on P c.loop-number.path.problem chosen c.args.numbers.now i c.loop-number.invariant.problem c.loop-number-test.true c.loop-number.invariant.onward in
    let on : c.take.new.self ≡ taken c.loop-number.path number = c.take.ensures.taken ∙ ap (λ w. taken w number) c.choice_denied.ensures.same in
    let found = found_between P c.loop-number.path.problem chosen c.args.steps.now next number None c.loop-number.invariant.problem (sym c.choice_denied.ensures.fault ∙ c.in-None.is) in
    record {
      problem = ap (λ (w : Walked). w.problem) on ∙ c.loop-number.invariant.problem;
      stands = stands_on P c.loop-number.path.problem chosen c.args.numbers.now i c.loop-number.invariant.problem c.loop-number-test.true low c.loop-number.invariant.stands
          ∙ ap (λ (w : Walked). Some w.chosen) (sym on);
      onward = (
        c.loop-number.invariant.onward.0,
        ap (λ (w : Walked). walk_from P w.chosen (drop (i + 1) c.args.numbers.now)) on
            ∙ (sym (walk_on P c.loop-number.path.problem chosen c.args.numbers.now i c.loop-number.invariant.problem c.loop-number-test.true low) ∙ c.loop-number.invariant.onward.1),
      );
      paired = ap (λ steps. map pair_of steps) (sym (drop-drop number next c.args.steps.now)) ∙ part.after;
      within = omega (arith, room, length-drop next c.args.steps.now, c.loop-number.invariant.within);
      rest = c.loop-number.invariant.rest
          ∙ (ap (λ steps. denies_fault P c.args.numbers.now steps) (split_at c.args.steps.now next number)
          ∙ denied_split P c.args.numbers.now chosen i (take number (drop next c.args.steps.now)) (drop (next + number) c.args.steps.now) c.loop-number.invariant.stands part.of_choice found);
    }

pub returns-clause-fault : goal.returns-clause-fault
returns-clause-fault c =
    let none = c.loop-number.invariant.paired ∙ ap (λ ns. pairs_from c.loop-number.number-index ns) (drop_end c.args.numbers.now c.loop-number.number-index c.loop-number-test.false) in
    sym (c.loop-number.invariant.rest ∙ ap (λ steps. denies_fault c.args.path.now.problem c.args.numbers.now steps) (no_steps (drop c.loop-number.next c.args.steps.now) none))
