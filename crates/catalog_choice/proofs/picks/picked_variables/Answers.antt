use Rattle.std.proofs.Common.{◌+◌, ◌∷◌, ◌++◌, [], sym, ap, ◌∙◌, get_or, drop, slice_index}
use Rattle.std.proofs.lemmas.List.{append_assoc}
use Rattle.op_constraints.specs.Walks.{Walked, choice, mandatory, walk_from}
use Rattle.catalog_choice.proofs.Walking.{goes_on, walk_on}
use Rattle.catalog_choice.proofs.picks.picked_variables.Goals as goal

pub take_member-requires : goal.take_member-requires
take_member-requires c =
    goes_on c.args.problem.now c.loop-number.path.problem c.loop-number.path.chosen c.args.numbers.now c.loop-number.number-index c.loop-number.invariant.problem c.loop-number-test.true
    (c.requires.walked.0, sym c.loop-number.invariant.walked ∙ c.requires.walked.1)

pub loop-number-preserved : goal.loop-number-preserved
loop-number-preserved c =
    let P = c.args.problem.now in
    let path = c.loop-number.path in
    let i = c.loop-number.number-index in
    let number = get_or c.args.numbers.now i 0 in
    let low = goes_on P path.problem path.chosen c.args.numbers.now i c.loop-number.invariant.problem c.loop-number-test.true (c.requires.walked.0, sym c.loop-number.invariant.walked ∙ c.requires.walked.1) in
    let on = c.take_member.ensures.taken in
    record {
      problem = ap (λ (w : Walked). w.problem) on ∙ c.loop-number.invariant.problem;
      chosen = ap (λ (w : Walked). w.chosen) on ∙ (ap (λ vs. vs ++ slice_index (choice path.problem path.chosen) number ∷ []) c.loop-number.invariant.chosen
          ∙ (append_assoc (mandatory P) c.loop-number.members.items (slice_index (choice path.problem path.chosen) number ∷ [])
          ∙ ap (λ vs. mandatory P ++ vs) (sym (c.in_ok-push.ensures.items ∙ ap (λ v. c.loop-number.members.items ++ v ∷ []) c.take_member.ensures.member))));
      walked = c.loop-number.invariant.walked
          ∙ (walk_on P path.problem path.chosen c.args.numbers.now i c.loop-number.invariant.problem c.loop-number-test.true low
          ∙ ap (λ (w : Walked). walk_from P w.chosen (drop (i + 1) c.args.numbers.now)) (sym on));
    }
