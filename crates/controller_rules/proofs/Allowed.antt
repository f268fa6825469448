-- Each write of the resolver is one that the theorem on histories allows.
use Rattle.std.proofs.Common.{◌≡◌, inl, ℕ, Bool, true, List, [], Option, Some, None, Result, Ok, Err, refl, sym, subst}
use Rattle.cluster_objects.specs.Kinds.{is_plan_key}
use Rattle.cluster_objects.specs.Places.{resolution_key}
use Rattle.cluster_objects.specs.Stamps.{stamps_of}
use Rattle.cluster_objects.specs.declared.objects.Object.{Object}
use Rattle.cluster_objects.specs.declared.objects.Write.{Write}
use Rattle.cluster_objects.specs.declared.plans.PlanFault.{PlanFault}
use Rattle.cluster_objects.specs.declared.plans.PlanStatus.{PlanStatus}
use Rattle.cluster_objects.specs.declared.resolutions.ResolutionStatus.{ResolutionStatus}
use Rattle.cluster_history.specs.History.{History, slot_in}
use Rattle.cluster_history.specs.Views.{View}
use Rattle.lawful_history.specs.Installing.{install_key}
use Rattle.lawful_history.specs.Lawful.{Aside, Creates, IsAllowed, IsNew, IsPlan}
use Rattle.lawful_history.proofs.Catalogs.{elsewhere}
use Rattle.install_plan.specs.Laws.{PlansAreNew}
use Rattle.install_plan.specs.Plans.{failed_plan, plan_of}
use Rattle.controller_rules.specs.Resolving.{Decides, IsResolversWrite, Plans, current, new_plan_write, plan_made, plan_or_failed, resolution_object, resolution_write}

none_is_some : {A : Type 0} (x : A) → ◌≡◌ {A = Option A} None (Some x) → ⊥
none_is_some x e = cc e

bare_resolution : (seen : View) (found : Option ResolutionStatus) (there : Option Object) (new : ResolutionStatus) → stamps_of (Some (resolution_object seen found there new)) ≡ []
bare_resolution seen None there new = refl
bare_resolution seen (Some old) None new = refl
bare_resolution seen (Some old) (Some object) new = refl

failed_is : (namespace : List ℕ) (found : ResolutionStatus) (seen : View) (fault : PlanFault) → IsPlan (install_key namespace found.number) (failed_plan found seen fault)
unfolding install_key
failed_is namespace found seen fault =
    record {
      named = refl;
      distinct = λ i j s t es et same. absurd (none_is_some s es);
      steps = λ i s e. absurd (none_is_some s e);
    }

failed_new : (found : ResolutionStatus) (seen : View) (fault : PlanFault) → IsNew (failed_plan found seen fault)
failed_new found seen fault = record { approved = refl; unknown = λ i s e. absurd (none_is_some s e); phase = inl (refl, refl) }

made_may : PlansAreNew → (seen : View) (found : ResolutionStatus) (result : Result PlanStatus PlanFault) → plan_of found seen ≡ result
    → IsPlan (install_key seen.namespace found.number) (plan_or_failed found seen result) × IsNew (plan_or_failed found seen result)
made_may new seen found (Ok plan) is = new found seen plan is
made_may new seen found (Err fault) is = (failed_is seen.namespace found seen fault, failed_new found seen fault)

plan_there : (namespace : List ℕ) (number : ℕ) → is_plan_key (install_key namespace number) ≡ true
unfolding install_key
plan_there namespace number = refl

module _ (is_valid : List ℕ → Bool) (new : PlansAreNew) (h : History) (seen : View) where
  plan_allowed : (found : ResolutionStatus) → IsAllowed is_valid h (new_plan_write seen found)
  plan_allowed found =
      let may = made_may new seen found (plan_of found seen) refl in
      Creates refl _ (plan_made seen found) (plan_there seen.namespace found.number) refl refl refl refl may.0 may.1

  decision_allowed : (decision : ResolutionStatus) → IsAllowed is_valid h (resolution_write seen decision)
  decision_allowed decision =
      let key = resolution_key seen.namespace in
      let there = (slot_in seen.slots key).object in
      Aside (bare_resolution seen (current seen) there decision) refl (elsewhere is_valid key (Some (resolution_object seen (current seen) there decision)) refl)

  pub resolver_allowed : (w : Write) → IsResolversWrite seen w → IsAllowed is_valid h w
  resolver_allowed w (Decides rest due decision next is) = subst (λ (w : Write). IsAllowed is_valid h w) (sym is) (decision_allowed decision)
  resolver_allowed w (Plans rest found stands due is) = subst (λ (w : Write). IsAllowed is_valid h w) (sym is) (plan_allowed found)
