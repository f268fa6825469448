use Rattle.std.proofs.Common.{◌≡◌, ◌+◌, ◌++◌, List, [], ◌∷◌, if◌then◌else◌, map, drop, sym, ap, ◌∙◌, Option, Some, None, Result, ◌≤◌, length, subst, arith, option_copied}
use Rattle.std.specs.Prelude.{Err}
use Rattle.std.proofs.lemmas.Result.{err_from_is_err_and}
use Rattle.std.specs.List.{filter_map, list_any}
use Rattle.std.specs.Option.{option_or}
use Rattle.cluster_objects.specs.declared.plans.Step.{Step}
use Rattle.cluster_objects.specs.declared.resolutions.Taken.{Taken}
use Rattle.install_plan.specs.Plans.{bundled, good_manifests, of_manifest}
use Rattle.install_plan.specs.Steps.{good_steps, is_csv_step, unless}
use Rattle.cluster_objects.specs.declared.plans.PlanFault.{PlanFault}
use Rattle.std.proofs.lemmas.List.{drop_all}
use Rattle.install_plan.specs.Answers.{Answers}
use Rattle.install_plan.specs.declared.refusal.PlanRefusal.{PlanRefusal}
use Rattle.install_plan.specs.declared.turns.Turned.{Turned}
use Rattle.install_plan.proofs.Gathering.{at_place, coming, coming_bad, coming_end, coming_next, err_answers}
use Rattle.install_plan.proofs.plans.manifest_steps.Goals as goal

pub loop-one-preserved : goal.loop-one-preserved
loop-one-preserved c =
    let namespace = c.args.namespace.now in
    let catalogs = c.args.catalogs.now in
    let one = c.one-item.result in
    let before = c.loop-one.turned.items in
    let lacking = option_copied c.loop-one.lacking in
    let rest = map (bundled catalogs) (drop (c.loop-one.one-index + 1) c.args.taken.now) in
    let read = c.in_ok-read.read in
    ap (λ (turned : List Turned). coming namespace turned (option_copied c.lacking_then-lacking.result) rest) (c.in_ok-add_steps.ensures ∙ ap (λ (read : List (Option Step)). before ++ map of_manifest (filter_map (λ found. found) read)) c.into_vec.ensures)
    ∙ ap (λ (lacking : Option Taken). coming namespace (before ++ map of_manifest (filter_map (λ found. found) read)) lacking rest)
    (c.lacking_then-lacking.ensures ∙ ap (λ (read : List (Option Step)). option_or lacking (if list_any is_csv_step read then None else Some one)) c.as_slice.ensures)
    ∙ sym (coming_next namespace before lacking (bundled catalogs one) rest read c.in_ok-read.ensures)
    ∙ sym (ap (coming namespace before lacking) (at_place catalogs c.args.taken.now c.loop-one.one-index one c.loop-one-test.true c.one-item.is))
    ∙ c.loop-one.invariant

pub returns-in_err-read : goal.returns-in_err-read
returns-in_err-read c =
    let namespace = c.args.namespace.now in
    let catalogs = c.args.catalogs.now in
    let one = c.one-item.result in
    let before = c.loop-one.turned.items in
    let lacking = option_copied c.loop-one.lacking in
    let rest = map (bundled catalogs) (drop (c.loop-one.one-index + 1) c.args.taken.now) in
    let wanted = good_manifests namespace (map (bundled catalogs) c.args.taken.now) in
    let passed_on = err_from_is_err_and c.from_residual.result c.from_residual.ensures.1 in
    subst (λ (r : Result (List Turned) PlanRefusal). Answers wanted r) (sym (passed_on.1 ∙ ap Err passed_on.2))
    (err_answers (good_steps namespace (bundled catalogs one)) wanted c.in_err-read.field-0.0
    (λ fault e. sym c.loop-one.invariant
    ∙ ap (coming namespace before lacking) (at_place catalogs c.args.taken.now c.loop-one.one-index one c.loop-one-test.true c.one-item.is)
    ∙ coming_bad namespace before lacking (bundled catalogs one) rest fault e)
    c.in_err-read.ensures)

pub returns : goal.returns
returns c =
    let namespace = c.args.namespace.now in
    let catalogs = c.args.catalogs.now in
    let turned = c.loop-one.turned.items in
    let lacking = option_copied c.loop-one.lacking in
    let past : length c.args.taken.now ≤ c.loop-one.one-index = omega arith in
    subst (λ (wanted : Result (List Turned) PlanFault). Answers wanted c.unless.result)
    (ap (λ (fault : Option PlanFault). unless fault turned) c.in_ok-fault.ensures
    ∙ coming_end namespace turned lacking
    ∙ sym (ap (λ (rest : List Taken). coming namespace turned lacking (map (bundled catalogs) rest)) (drop_all c.loop-one.one-index c.args.taken.now past))
    ∙ c.loop-one.invariant)
    c.unless.ensures
