use Rattle.std.proofs.Common.{◌≡◌, ◌<◌, ◌∙◌, ℕ, List, ap, sym, subst, arith, rules, length, map, Some}
use Rattle.std.specs.Borrow.{Bor}
use Rattle.std.specs.List.{All, AllByRecursion}
use Rattle.std.specs.Option.{IfSome}
use Rattle.std.proofs.lemmas.List.{length-map}
use Rattle.std.proofs.lemmas.List.Elements.{All-from_recursion}
use Rattle.op_constraints.specs.Kept.{HasFewConstraints, HasFewMembers, kept}
use Rattle.op_constraints.specs.declared.Constraint.{Constraint}
use Rattle.op_properties.specs.Offers.{Provided, shown}
use Rattle.op_properties.specs.declared.offer.Offer.{Offer}
use Rattle.view_basis.specs.Tips.{tip_offer}
use Rattle.problem_build.specs.Building.{most_constraints}
use Rattle.problem_build.specs.Shown.{shown_choices}
use Rattle.problem_build.specs.Variables.{Fits, kinds, packages, problem, provided}
use Rattle.problem_build.specs.declared.asking.Asked.{Asked}
use Rattle.problem_build.proofs.Answering.{few_choices, few_constraints, many_constraints, many_variables, named_long}
use Rattle.problem_build.proofs.Keeping.{problem_few, problem_kept}
use Rattle.problem_build.proofs.building.build_over.Goals as goal

see : Bor Offer → Provided
see offer = shown offer.now

pub returns-then-len-gt-VAR_LIMIT : goal.returns-then-len-gt-VAR_LIMIT
unfolding see
returns-then-len-gt-VAR_LIMIT c =
    let from = shown_choices c.args.pool.now in
    let ps : c.as_slice-3.result.now ≡ packages (provided from) =
    c.as_slice-3.ensures.value ∙ c.in_ok-packages.ensures ∙ ap packages (ap (map see) c.as_slice.ensures.value ∙ c.in_ok-offers.ensures) in
    let ks : c.as_slice-4.result.now ≡ kinds (provided from) =
    c.as_slice-4.ensures.value ∙ c.in_ok-kinds.ensures ∙ ap kinds (ap (map see) c.as_slice-2.ensures.value ∙ c.in_ok-offers.ensures) in
    let same : length c.in_ok-names.names.items ≡ length (problem from) =
    named_long c.in_ok-names.names.items c.args.basis.subscriptions c.args.basis.tips from c.as_slice-3.result.now c.as_slice-4.result.now c.in_ok-names.ensures ps ks c.requires.asks (ap length c.requires.tips ∙ length-map c.args.basis.tips tip_offer) in
    let n : c.len.result ≡ length c.in_ok-names.names.items = search rules in
    let m : c.len-then-len-gt-VAR_LIMIT.result ≡ length c.in_ok-names.names.items = search rules in
    many_variables (problem from) (omega (arith, n, same)) ∙ ap Some (sym (m ∙ same))

pub returns-then-most-gt-VAR_LIMIT : goal.returns-then-most-gt-VAR_LIMIT
unfolding see
returns-then-most-gt-VAR_LIMIT c =
    let from = shown_choices c.args.pool.now in
    let ps : c.as_slice-3.result.now ≡ packages (provided from) =
    c.as_slice-3.ensures.value ∙ c.in_ok-packages.ensures ∙ ap packages (ap (map see) c.as_slice.ensures.value ∙ c.in_ok-offers.ensures) in
    let ks : c.as_slice-4.result.now ≡ kinds (provided from) =
    c.as_slice-4.ensures.value ∙ c.in_ok-kinds.ensures ∙ ap kinds (ap (map see) c.as_slice-2.ensures.value ∙ c.in_ok-offers.ensures) in
    let same : length c.in_ok-names.names.items ≡ length (problem from) =
    named_long c.in_ok-names.names.items c.args.basis.subscriptions c.args.basis.tips from c.as_slice-3.result.now c.as_slice-4.result.now c.in_ok-names.ensures ps ks c.requires.asks (ap length c.requires.tips ∙ length-map c.args.basis.tips tip_offer) in
    let n : c.len.result ≡ length c.in_ok-names.names.items = search rules in
    let m : c.most_constraints-most.result ≡ most_constraints (problem from) =
    c.most_constraints-most.ensures ∙ ap most_constraints (c.as_slice-8.ensures.value ∙ c.in_ok-rows.ensures) in
    many_constraints (problem from) (omega (arith, n, same)) (omega (arith, m)) ∙ ap Some (sym m)

pub problem_of_rows-requires-clause-variables : goal.problem_of_rows-requires-clause-variables
unfolding see
problem_of_rows-requires-clause-variables c =
    let from = shown_choices c.args.pool.now in
    let ps : c.as_slice-3.result.now ≡ packages (provided from) =
    c.as_slice-3.ensures.value ∙ c.in_ok-packages.ensures ∙ ap packages (ap (map see) c.as_slice.ensures.value ∙ c.in_ok-offers.ensures) in
    let ks : c.as_slice-4.result.now ≡ kinds (provided from) =
    c.as_slice-4.ensures.value ∙ c.in_ok-kinds.ensures ∙ ap kinds (ap (map see) c.as_slice-2.ensures.value ∙ c.in_ok-offers.ensures) in
    let same : length c.in_ok-names.names.items ≡ length (problem from) =
    named_long c.in_ok-names.names.items c.args.basis.subscriptions c.args.basis.tips from c.as_slice-3.result.now c.as_slice-4.result.now c.in_ok-names.ensures ps ks c.requires.asks (ap length c.requires.tips ∙ length-map c.args.basis.tips tip_offer) in
    let n : c.len.result ≡ length c.in_ok-names.names.items = search rules in
    let r : length c.in_ok-rows.rows.items ≡ length (problem from) = ap length c.in_ok-rows.ensures in
    omega (arith, n, same, r)

pub problem_of_rows-requires-clause-constraints : goal.problem_of_rows-requires-clause-constraints
problem_of_rows-requires-clause-constraints c =
    let m : c.most_constraints-most.result ≡ most_constraints c.in_ok-rows.rows.items =
    c.most_constraints-most.ensures ∙ ap most_constraints c.as_slice-8.ensures.value in
    All-from_recursion HasFewConstraints c.in_ok-rows.rows.items (few_constraints c.in_ok-rows.rows.items (omega (arith, m)))

pub problem_of_rows-requires-clause-members : goal.problem_of_rows-requires-clause-members
unfolding see
problem_of_rows-requires-clause-members c =
    let from = shown_choices c.args.pool.now in
    let ps : c.as_slice-3.result.now ≡ packages (provided from) =
    c.as_slice-3.ensures.value ∙ c.in_ok-packages.ensures ∙ ap packages (ap (map see) c.as_slice.ensures.value ∙ c.in_ok-offers.ensures) in
    let ks : c.as_slice-4.result.now ≡ kinds (provided from) =
    c.as_slice-4.ensures.value ∙ c.in_ok-kinds.ensures ∙ ap kinds (ap (map see) c.as_slice-2.ensures.value ∙ c.in_ok-offers.ensures) in
    let same : length c.in_ok-names.names.items ≡ length (problem from) =
    named_long c.in_ok-names.names.items c.args.basis.subscriptions c.args.basis.tips from c.as_slice-3.result.now c.as_slice-4.result.now c.in_ok-names.ensures ps ks c.requires.asks (ap length c.requires.tips ∙ length-map c.args.basis.tips tip_offer) in
    let n : c.len.result ≡ length c.in_ok-names.names.items = search rules in
    let fits : Fits from = record {
      few = few_choices from (omega (arith, n, same));
      installed = subst (λ (k : ℕ). All (λ (asked : Asked). IfSome asked.installed (λ place. place < k)) c.args.pool.now.asks.now) (sym (length-map c.args.pool.now.tips.now shown)) c.requires.installed;
    } in
    subst (λ (rows : List (List Constraint)). All (λ row. AllByRecursion HasFewMembers row) rows) (sym c.in_ok-rows.ensures)
    (All-from_recursion (λ row. AllByRecursion HasFewMembers row) (problem from) (problem_few from fits))

pub problem_of_rows-requires-clause-kept : goal.problem_of_rows-requires-clause-kept
problem_of_rows-requires-clause-kept c =
    let from = shown_choices c.args.pool.now in
    subst (λ (rows : List (List Constraint)). All (λ row. map kept row ≡ row) rows) (sym c.in_ok-rows.ensures)
    (All-from_recursion (λ row. map kept row ≡ row) (problem from) (problem_kept from))
