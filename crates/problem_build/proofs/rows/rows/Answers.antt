use Rattle.std.proofs.Common.{◌∷◌, [], ◌++◌, ◌∙◌, List, ℕ, ap, sym, map, length}
use Rattle.std.specs.List.{range_with_len}
use Rattle.std.proofs.lemmas.List.{length-map}
use Rattle.olm_base.specs.declared.gvk.Gvk.{Gvk}
use Rattle.op_constraints.specs.declared.Constraint.{Constraint}
use Rattle.op_constraints.specs.declared.Constraint.TheVariants.{AtMost}
use Rattle.op_properties.specs.Offers.{Provided, shown}
use Rattle.problem_build.specs.Numbers.{numbers_where}
use Rattle.problem_build.specs.Shown.{shown_choices}
use Rattle.problem_build.specs.Variables as spec
use Rattle.problem_build.proofs.Lists.{five}
use Rattle.problem_build.proofs.rows.rows.Goals as goal

abbrev package_rows : ℕ → List Provided → List (List ℕ) → List (List Constraint)
package_rows first offers names = map (λ name. AtMost 1 (numbers_where first (spec.is_of_package name) offers) ∷ []) names

abbrev kind_rows : ℕ → List Provided → List Gvk → List (List Constraint)
kind_rows first offers names = map (λ kind. AtMost 1 (numbers_where first (spec.has_kind kind) offers) ∷ []) names

pub returns : goal.returns
returns c =
    let choices = shown_choices c.args.pool.now in
    let first = length c.args.pool.now.asks.now in
    let offers = spec.provided choices in
    five c.new-rows.result.items c.add_subscriptions.new.rows.items c.add_entries.new.rows.items c.add_tips.new.rows.items c.add_packages.new.rows.items c.add_kinds.new.rows.items
    (map (spec.of_subscription choices) choices.asks)
    (map (spec.of_entry choices) choices.entries)
    (map (spec.of_tip choices.asks) (range_with_len 0 (length choices.tips)))
    (map (spec.of_package choices) (spec.packages offers))
    (map (spec.of_kind choices) (spec.kinds offers))
    c.new-rows.ensures.items
    c.in_ok-add_subscriptions.ensures
    c.in_ok-add_entries.ensures
    (c.in_ok-add_tips.ensures ∙ ap (λ (n : ℕ). c.add_entries.new.rows.items ++ map (spec.of_tip choices.asks) (range_with_len 0 n)) (sym (length-map c.args.pool.now.tips.now shown)))
    (c.in_ok-add_packages.ensures
    ∙ ap (λ (o : List Provided). c.add_tips.new.rows.items ++ package_rows first o c.args.packages.now) c.requires.offers
    ∙ ap (λ (l : List (List ℕ)). c.add_tips.new.rows.items ++ package_rows first offers l) c.requires.packages)
    (c.in_ok-add_kinds.ensures
    ∙ ap (λ (o : List Provided). c.add_packages.new.rows.items ++ kind_rows first o c.args.kinds.now) c.requires.offers
    ∙ ap (λ (l : List Gvk). c.add_packages.new.rows.items ++ kind_rows first offers l) c.requires.kinds)
