-- A plan that a resolution has may be written, and is new.
use Rattle.std.proofs.Common.{◌≡◌, ◌⊎◌, ℕ, Bool, true, false, List, [], ◌++◌, map, Option, Some, None, Result, Ok, Err, slice_get, inl, inr, refl, sym, ap, ◌∙◌, subst}
use Rattle.std.specs.List.{AllByRecursion}
use Rattle.std.specs.Option.{option_or}
use Rattle.cluster_objects.specs.declared.keys.Key.{Key}
use Rattle.cluster_objects.specs.declared.plans.PlanFault.{PlanFault}
use Rattle.cluster_objects.specs.declared.plans.PlanPhase.TheVariants as phase
use Rattle.cluster_objects.specs.declared.plans.PlanStatus.{PlanStatus}
use Rattle.cluster_objects.specs.declared.plans.Step.{Step}
use Rattle.cluster_objects.specs.declared.resolutions.ResolutionStatus.{ResolutionStatus}
use Rattle.cluster_objects.specs.declared.resolutions.Taken.{Taken}
use Rattle.cluster_history.specs.Views.{View}
use Rattle.object_bodies.specs.Laws.{AreMadeNew}
use Rattle.lawful_history.specs.Installing.{install_key}
use Rattle.lawful_history.specs.Lawful.{IsPlan, IsNew}
use Rattle.view_basis.specs.Basis.{subscriptions}
use Rattle.view_basis.specs.Visible.{visible_catalogs}
use Rattle.install_plan.specs.Laws.{PlansAreNew}
use Rattle.install_plan.specs.Plans.{added_steps, bundled, manifest_steps, new_plan, plan_of, same_key_fault, steps_for, steps_in_order, taken_by, with_steps}
use Rattle.install_plan.specs.Steps.{bad_manifest, no_manifest}
use Rattle.install_plan.specs.Subscribing.{is_manual}
use Rattle.install_plan.proofs.Distinct.{distinct}
use Rattle.install_plan.proofs.Fitting.{Fits, steps_fit}
use Rattle.install_plan.proofs.Gathering.{unless_ok}
use Rattle.install_plan.proofs.Members.{none_is_some, all_at}

later_none : (a b : Option PlanFault) → option_or a b ≡ None → b ≡ None
later_none None b e = e
later_none (Some fault) b e = cc e

steps_are : (number : ℕ) (manual : Bool) (found : Result (List Step) PlanFault) (plan : PlanStatus) → with_steps number manual found ≡ Ok plan
    → (steps : List Step) × (found ≡ Ok steps) × (new_plan number manual steps ≡ plan)
steps_are number manual (Ok steps) plan e = (steps, refl, cc e)
steps_are number manual (Err fault) plan e = cc e

new_of : (number : ℕ) (manual : Bool) (key : Key) (steps : List Step) → AllByRecursion (Fits key) steps → IsNew (new_plan number manual steps)
new_of number true key steps all =
    record { approved = refl; unknown = λ i s e. (all_at (Fits key) steps all i s e).state; phase = inr (inl (refl, refl)) }
new_of number false key steps all =
    record { approved = refl; unknown = λ i s e. (all_at (Fits key) steps all i s e).state; phase = inr (inr (refl, refl)) }

plan_is : (number : ℕ) (manual : Bool) (namespace : List ℕ) (steps : List Step) → AllByRecursion (Fits (install_key namespace number)) steps → same_key_fault steps ≡ None
    → IsPlan (install_key namespace number) (new_plan number manual steps)
unfolding install_key
plan_is number manual namespace steps all none =
    record {
      named = refl;
      distinct = distinct steps none;
      steps = λ i s e. (all_at (Fits (install_key namespace number)) steps all i s e).is;
    }

in_namespace : (namespace : List ℕ) (number : ℕ) → (install_key namespace number).namespace ≡ namespace
unfolding install_key
in_namespace namespace number = refl

pub plans_are_new : ((namespace body : List ℕ) → AreMadeNew namespace body) → PlansAreNew
plans_are_new law resolution view plan e =
    let taken = taken_by resolution.outcome in
    let subscribed = subscriptions view in
    let manual = is_manual subscribed taken in
    let all = map (bundled (visible_catalogs view)) taken in
    let key = install_key view.namespace resolution.number in
    let parts = steps_are resolution.number manual (steps_for view taken) plan e in
    let turned = manifest_steps view.namespace all ++ added_steps view.namespace subscribed manual taken in
    let steps = steps_in_order turned in
    let ok = unless_ok (option_or (bad_manifest view.namespace all) (option_or (no_manifest view.namespace all) (same_key_fault steps))) steps parts.0 parts.1 in
    let none = later_none (no_manifest view.namespace all) (same_key_fault steps) (later_none (bad_manifest view.namespace all) _ ok.0) in
    let fit : AllByRecursion (Fits key) steps =
    subst (λ (namespace : List ℕ). AllByRecursion (Fits key) (steps_in_order (manifest_steps namespace all ++ added_steps namespace subscribed manual taken)))
    (in_namespace view.namespace resolution.number) (steps_fit law key all subscribed manual taken) in
    let is : new_plan resolution.number manual steps ≡ plan = ap (new_plan resolution.number manual) ok.1 ∙ parts.2 in
    subst (λ (plan : PlanStatus). IsPlan key plan × IsNew plan) is
    (plan_is resolution.number manual view.namespace steps fit none, new_of resolution.number manual key steps fit)
