use Rattle.std.proofs.Common.{◌++◌, ◌∷◌, [], ◌∙◌, ◌-◌, ◌+◌, List, ℕ, ap, sym, map, length, append_assoc}
use Rattle.std.specs.List.{range_with_len}
use Rattle.op_constraints.specs.declared.Constraint.{Constraint}
use Rattle.problem_build.specs.Variables.{of_tip}
use Rattle.problem_build.proofs.Lists.{range_step}
use Rattle.problem_build.proofs.rows.add_tips.Goals as goal

pub loop-place-preserved : goal.loop-place-preserved
loop-place-preserved c =
    let n = length c.args.pool.now.tips.now in
    let asks = c.args.pool.now.asks.now in
    let place = c.loop-place.place in
    let rest : List (List Constraint) = map (of_tip asks) (range_with_len (place + 1) (n - (place + 1))) in
    ap (λ (r : List (List Constraint)). r ++ rest) (c.in_ok-push.ensures.items ∙ ap (λ (r : List Constraint). c.loop-place.rows.items ++ r ∷ []) c.in_ok-of_tip.ensures)
    ∙ append_assoc c.loop-place.rows.items (of_tip asks place ∷ []) rest
    ∙ ap (λ (l : List ℕ). c.loop-place.rows.items ++ map (of_tip asks) l) (sym (range_step place n c.loop-place-test.true))
    ∙ c.loop-place.invariant
