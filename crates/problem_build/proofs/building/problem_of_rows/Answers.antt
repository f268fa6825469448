use Rattle.std.proofs.Common.{◌≡◌, ◌≢◌, ◌<◌, ◌++◌, ◌∷◌, [], ◌∙◌, List, ap, sym, subst, arith, length, length-set, map, take, get_or, get_or-set_other}
use Rattle.std.specs.List.{AllByRecursion}
use Rattle.std.proofs.lemmas.List.{length-take, take_more}
use Rattle.op_constraints.specs.Kept.{HasFewConstraints, HasFewMembers, kept}
use Rattle.op_constraints.specs.declared.Constraint.{Constraint}
use Rattle.problem_build.proofs.building.problem_of_rows.Goals as goal

pub push-requires-clause-variables : goal.push-requires-clause-variables
push-requires-clause-variables c =
    let long = ap length c.loop-place.invariant.made in
    let cut = length-take c.loop-place.place c.args.rows.items in
    omega (arith, long, cut)

pub push-requires-clause-constraints : goal.push-requires-clause-constraints
push-requires-clause-constraints c =
    let here : c.take_row-row.result ≡ get_or c.args.rows.items c.loop-place.place [] =
    c.take_row-row.ensures.row ∙ c.loop-place.invariant.left c.loop-place.place (omega arith) in
    subst HasFewConstraints (sym here) (c.requires.constraints c.loop-place.place [] (omega arith))

pub push-requires-clause-members : goal.push-requires-clause-members
push-requires-clause-members c =
    let here : c.take_row-row.result ≡ get_or c.args.rows.items c.loop-place.place [] =
    c.take_row-row.ensures.row ∙ c.loop-place.invariant.left c.loop-place.place (omega arith) in
    subst (λ (row : List Constraint). AllByRecursion HasFewMembers row) (sym here) (c.requires.members c.loop-place.place [] (omega arith))

pub loop-place-preserved : goal.loop-place-preserved
loop-place-preserved c =
    let all = c.args.rows.items in
    let place = c.loop-place.place in
    let below : place < length all = omega arith in
    let here : c.take_row-row.result ≡ get_or all place [] =
    c.take_row-row.ensures.row ∙ c.loop-place.invariant.left place (omega arith) in
    record {
      made =
          c.in_ok-push.ensures.added
          ∙ ap (λ (p : List (List Constraint)). p ++ map kept c.take_row-row.result ∷ []) c.loop-place.invariant.made
          ∙ ap (λ (row : List Constraint). take place all ++ row ∷ []) (ap (map kept) here ∙ c.requires.kept place [] below)
          ∙ sym (take_more all place [] below);
      long = ap length c.take_row-row.ensures.rows ∙ length-set c.loop-place.rows.items place [] ∙ c.loop-place.invariant.long;
      left = λ k h.
          let other : k ≢ place = omega arith in
          ap (λ (r : List (List Constraint)). get_or r k []) c.take_row-row.ensures.rows
          ∙ get_or-set_other c.loop-place.rows.items place k [] [] other
          ∙ c.loop-place.invariant.left k (omega arith);
    }
