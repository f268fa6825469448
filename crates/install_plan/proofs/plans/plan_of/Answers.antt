use Rattle.std.proofs.Common.{List, Result, Ok, sym, ap, ◌∙◌, subst, Bool}
use Rattle.std.specs.Prelude.{Err}
use Rattle.std.proofs.lemmas.Result.{err_from_is_err_and}
use Rattle.cluster_objects.specs.declared.plans.PlanStatus.{PlanStatus}
use Rattle.cluster_objects.specs.declared.resolutions.Taken.{Taken}
use Rattle.view_basis.specs.Basis.{subscriptions}
use Rattle.install_plan.specs.Answers.{Answers}
use Rattle.install_plan.specs.Plans.{new_plan, plan_of, steps_from, taken_by, with_steps}
use Rattle.install_plan.specs.Subscribing.{Subscriptions, is_manual}
use Rattle.install_plan.specs.declared.refusal.PlanRefusal.{PlanRefusal}
use Rattle.install_plan.proofs.Gathering.{err_answers, same_for}
use Rattle.install_plan.proofs.plans.plan_of.Goals as goal

pub returns-in_err-steps : goal.returns-in_err-steps
returns-in_err-steps c =
    let view = c.args.view.now in
    let number = c.args.resolution.now.number in
    let taken = taken_by c.args.resolution.now.outcome in
    let manual = is_manual (subscriptions view) taken in
    let same = same_for view c.namespace.result.now c.as_slice-2.result.now c.as_slice-3.result.now c.taken_by-taken.result.now taken
    c.namespace.ensures (c.as_slice-2.ensures ∙ c.in_ok-catalogs.ensures) (c.as_slice-3.ensures ∙ c.in_ok-asked.ensures) c.taken_by-taken.ensures in
    let passed_on = err_from_is_err_and c.from_residual-in_err-steps.result c.from_residual-in_err-steps.ensures.1 in
    subst (λ (r : Result PlanStatus PlanRefusal). Answers (plan_of c.args.resolution.now view) r) (sym (passed_on.1 ∙ ap Err passed_on.2))
    (err_answers (steps_from c.namespace.result.now c.as_slice-2.result.now c.as_slice-3.result.now c.taken_by-taken.result.now) (plan_of c.args.resolution.now view)
    c.in_err-steps.field-0.0 (λ fault e. ap (with_steps number manual) (sym same ∙ e)) c.in_err-steps.ensures)

pub returns : goal.returns
returns c =
    let view = c.args.view.now in
    let number = c.args.resolution.now.number in
    let taken = taken_by c.args.resolution.now.outcome in
    let manual = is_manual (subscriptions view) taken in
    let same = same_for view c.namespace.result.now c.as_slice-2.result.now c.as_slice-3.result.now c.taken_by-taken.result.now taken
    c.namespace.ensures (c.as_slice-2.ensures ∙ c.in_ok-catalogs.ensures) (c.as_slice-3.ensures ∙ c.in_ok-asked.ensures) c.taken_by-taken.ensures in
    let is = c.is_manual-manual.ensures
    ∙ ap (λ (subscribed : Subscriptions). is_manual subscribed c.taken_by-taken.result.now) (c.as_slice.ensures ∙ c.in_ok-asked.ensures)
    ∙ ap (is_manual (subscriptions view)) c.taken_by-taken.ensures in
    ap (with_steps number manual) (sym same ∙ c.in_ok-steps.ensures)
    ∙ ap (λ (manual : Bool). Ok (new_plan number manual c.in_ok-steps.steps)) (sym is)
    ∙ ap Ok (sym c.new_plan.ensures)
