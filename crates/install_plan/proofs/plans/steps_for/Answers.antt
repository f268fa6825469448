use Rattle.std.proofs.Common.{◌++◌, List, Result, sym, ap, ◌∙◌, subst}
use Rattle.std.specs.Prelude.{Err}
use Rattle.std.proofs.lemmas.Result.{err_from_is_err_and}
use Rattle.cluster_objects.specs.declared.plans.PlanFault.{PlanFault}
use Rattle.cluster_objects.specs.declared.plans.Step.{Step}
use Rattle.install_plan.specs.Answers.{Answers}
use Rattle.install_plan.specs.Plans.{added_steps, bundled, good_manifests, kept_steps, steps_from}
use Rattle.install_plan.specs.Subscribing.{is_manual}
use Rattle.install_plan.specs.declared.refusal.PlanRefusal.{PlanRefusal}
use Rattle.install_plan.specs.declared.turns.Turned.{Turned}
use Rattle.install_plan.proofs.Gathering.{err_answers, from_bad, from_good}
use Rattle.install_plan.proofs.plans.steps_for.Goals as goal
use Rattle.std.proofs.Common.{map}

pub returns-in_err-found : goal.returns-in_err-found
returns-in_err-found c =
    let namespace = c.args.namespace.now in
    let catalogs = c.args.catalogs.now in
    let subscribed = c.args.subscriptions.now in
    let taken = c.args.taken.now in
    let wanted = steps_from namespace catalogs subscribed taken in
    let passed_on = err_from_is_err_and c.from_residual.result c.from_residual.ensures.1 in
    subst (λ (r : Result (List Step) PlanRefusal). Answers wanted r) (sym (passed_on.1 ∙ ap Err passed_on.2))
    (err_answers (good_manifests namespace (map (bundled catalogs) taken)) wanted c.in_err-found.field-0.0 (from_bad namespace catalogs subscribed taken) c.in_err-found.ensures)

pub returns : goal.returns
returns c =
    let namespace = c.args.namespace.now in
    let catalogs = c.args.catalogs.now in
    let subscribed = c.args.subscriptions.now in
    let taken = c.args.taken.now in
    let added = added_steps namespace subscribed (is_manual subscribed taken) taken in
    subst (λ (wanted : Result (List Step) PlanFault). Answers wanted c.kept_steps.result)
    (ap kept_steps (c.in_ok-add_subscriptions.ensures ∙ ap (λ (turned : List Turned). turned ++ added) c.into_vec-turned.ensures)
    ∙ sym (from_good namespace catalogs subscribed taken c.in_ok-found.found c.in_ok-found.ensures))
    c.kept_steps.ensures
