-- One write and the phase of the plan at a key.
use Rattle.std.proofs.Common.{◌≡◌, ◌⊎◌, inl, inr, Bool, true, false, List, ℕ, Option, Some, None, refl, sym, ap, ◌∙◌, subst}
use Rattle.std.specs.Option.{option_map}
use Rattle.cluster_objects.specs.Kinds.{as_plan, is_plan_key, plan_at}
use Rattle.cluster_objects.specs.declared.keys.Key.{Key}
use Rattle.cluster_objects.specs.declared.objects.Write.{Write}
use Rattle.cluster_objects.specs.declared.objects.Writer.TheVariants as writer
use Rattle.cluster_objects.specs.declared.plans.PlanPhase.{PlanPhase}
use Rattle.cluster_objects.specs.declared.plans.PlanStatus.{PlanStatus}
use Rattle.cluster_objects.specs.declared.resolutions.ResolutionStatus.{ResolutionStatus}
use Rattle.cluster_history.specs.History.{After, History, first_writes, never_written, slot}
use Rattle.cluster_history.specs.Views.{view}
use Rattle.cluster_history.specs.declared.slots.Slot.{Slot}
use Rattle.lawful_history.specs.Installing.{install_key}
use Rattle.lawful_history.specs.Sound.{IsLawful}
use Rattle.lawful_history.proofs.Allowing.{as_plan-status}
use Rattle.lawful_history.proofs.Moves.{slot_in-view}
use Rattle.lawful_history.proofs.Slots.{same_or_other}
use Rattle.history_laws.specs.Edges.{PhaseEdge}
use Rattle.history_laws.proofs.Keeping.{nothing, same}
use Rattle.history_laws.proofs.Planning.{phase_edge}
use Rattle.csv_phases.proofs.Taking.{all_aside, of_write}
use Rattle.controller_rules.specs.PlanEdges.{IsPlanEdge}
use Rattle.controller_rules.specs.Resolving.{Decides, IsResolversWrite, Plans, Stands, has_no_plan, new_plan_write, plan_made}
use Rattle.lease_fence.proofs.Standing.{of_a_lease}
use Rattle.lawful_events.specs.Keeps.{GetsApproved}
use Rattle.lawful_events.proofs.Keeping.{kept_here}
use Rattle.lawful_roles.specs.Roles.{IsKept}
use Rattle.role_laws.specs.Plans.{GoesOn, IsMade, IsRemoved, PlanGoes, Stays, plan_phase_at, plan_phase_of}
use Rattle.role_laws.proofs.Carrying.{Carries, OfPlan, OfStep, SeenPlan, carries, stamped_no_plan, step_stamped}
use Rattle.role_laws.proofs.Kept.{By, ByInstaller, ByResolver, OfGrant, OfInstaller, OfPhases, OfResolver, OfUser, base_in_order, base_sound, own_visible, who_had}
use Rattle.role_laws.proofs.Separate.{counts_none, it_counts, lease_no_plan, nothing_counts}

abbrev phase_in : Option PlanStatus → Option PlanPhase
phase_in found = option_map (λ (plan : PlanStatus). plan.phase) found

-- what the write makes of the plan at its own key
abbrev GoesHere : History → Write → Type 0
GoesHere h w = PlanGoes h w w.key (plan_phase_at h w.key) (plan_phase_of w.key w.object)

-- a key of another kind has no plan
elsewhere : (h : History) (w : Write) → is_plan_key w.key ≡ false → GoesHere h w
elsewhere h w other =
    Stays (ap phase_in (counts_none (is_plan_key w.key) (as_plan w.object) other
    ∙ sym (counts_none (is_plan_key w.key) (as_plan (slot h w.key).object) other)))

-- ---- a user

same_phase : (old new : PlanStatus) → (new ≡ old) ⊎ GetsApproved old new → new.phase ≡ old.phase
same_phase old new (inl same) = ap (λ (p : PlanStatus). p.phase) same
same_phase old new (inr approved) = ap (λ (p : PlanStatus). p.phase) approved.1

by_user : (h : History) (w : Write) (key : Key) → w.by ≡ writer.User → (old new : Option PlanStatus)
    → ((x : PlanStatus) → new ≡ Some x → (y : PlanStatus) × (old ≡ Some y) × ((x ≡ y) ⊎ GetsApproved y x))
    → PlanGoes h w key (phase_in old) (phase_in new)
by_user h w key user old None keeps = IsRemoved user refl
by_user h w key user old (Some x) keeps =
    let (y, was, is) = keeps x refl in Stays (ap Some (same_phase y x is) ∙ sym (ap phase_in was))

-- ---- the resolver

own_place : (w : Write) (namespace : List ℕ) (number : ℕ) → w.key ≡ install_key namespace number → namespace ≡ w.key.namespace
unfolding install_key
own_place w namespace number at = sym (ap (λ (k : Key). k.namespace) at)

plan_there : (namespace : List ℕ) (number : ℕ) → is_plan_key (install_key namespace number) ≡ true
unfolding install_key
plan_there namespace number = refl

-- where nothing was ever written no plan stands
none_yet : (is_valid : List ℕ → Bool) (h : History) (w : Write) → IsKept is_valid (After w h) → w.expect ≡ 0 → plan_phase_at h w.key ≡ None
none_yet is_valid h w kept fresh =
    let there : slot h w.key ≡ never_written = nothing h w.key (base_sound is_valid h kept.2).sound.0 (sym kept.0 ∙ fresh) in
    ap (λ (s : Slot). plan_phase_of w.key s.object) there ∙ ap phase_in (nothing_counts (is_plan_key w.key))

made_by : (is_valid : List ℕ → Bool) (h : History) (w : Write) → IsKept is_valid (After w h) → (by : ByResolver h w)
    → (found : ResolutionStatus) → Stands (view h by.namespace by.object.seen) found
    → has_no_plan (view h by.namespace by.object.seen) found ≡ true
    → w ≡ new_plan_write (view h by.namespace by.object.seen) found → GoesHere h w
made_by is_valid h w kept by found stands due is =
    let v = view h by.namespace by.object.seen in
    let at : w.key ≡ install_key by.namespace found.number = ap (λ (x : Write). x.key) is in
    let kind : is_plan_key w.key ≡ true = ap is_plan_key at ∙ plan_there by.namespace found.number in
    let put : plan_at w.key w.object ≡ Some (plan_made v found) =
    it_counts (is_plan_key w.key) (as_plan w.object) kind ∙ ap (λ (x : Write). as_plan x.object) is in
    let edge : IsPlanEdge v w.key None (plan_made v found).phase =
    record { found = found; stands = stands; due = due; place = at; phase = refl } in
    IsMade by.by (plan_made v found).phase by.object.seen
    (none_yet is_valid h w kept (ap (λ (x : Write). x.expect) is)) (ap phase_in put) by.moment
    (subst (λ (ns : List ℕ). IsPlanEdge (view h ns by.object.seen) w.key None (plan_made v found).phase)
    (own_place w by.namespace found.number at) edge)

by_resolver : (is_valid : List ℕ → Bool) (h : History) (w : Write) → IsKept is_valid (After w h) → (by : ByResolver h w)
    → IsResolversWrite (view h by.namespace by.object.seen) w → GoesHere h w
by_resolver is_valid h w kept by (Decides rest due new next is) = elsewhere h w (ap (λ (x : Write). is_plan_key x.key) is)
by_resolver is_valid h w kept by (Plans rest found stands due is) = made_by is_valid h w kept by found stands due is

-- ---- the installer

-- the plan that was seen stands there still
module _ (is_valid : List ℕ → Bool) (h : History) (w : Write) (kept : IsKept is_valid (After w h)) (by : ByInstaller h w)
    (seen : SeenPlan (view h by.namespace by.length) (first_writes by.length h)) (new : PlanStatus) (at : w.key ≡ seen.key)
    (expects : w.expect ≡ (slot (first_writes by.length h) seen.key).version) (put : as_plan w.object ≡ Some new) where
  stays_there : slot (first_writes by.length h) w.key ≡ slot h w.key
  stays_there =
      same h by.length w.key (base_sound is_valid h kept.2).sound.0
      (ap (λ (k : Key). (slot (first_writes by.length h) k).version) at ∙ sym expects ∙ kept.0)

  kind_of_key : is_plan_key w.key ≡ true
  kind_of_key = ap is_plan_key at ∙ seen.kind

  own : w.key.namespace ≡ by.namespace
  own = ap (λ (k : Key). k.namespace) at ∙ seen.namespace

  was_seen : plan_at w.key (slot (first_writes by.length h) w.key).object ≡ Some seen.plan
  was_seen =
      it_counts (is_plan_key w.key) (as_plan (slot (first_writes by.length h) w.key).object) kind_of_key
      ∙ ap (λ (k : Key). as_plan (slot (first_writes by.length h) k).object) at
      ∙ ap as_plan seen.there ∙ as_plan-status seen.object seen.plan seen.status

  was : plan_phase_at h w.key ≡ Some seen.plan.phase
  was = ap (λ (s : Slot). plan_phase_of w.key s.object) (sym stays_there) ∙ ap phase_in was_seen

  is_now : plan_phase_of w.key w.object ≡ Some new.phase
  is_now = ap phase_in (it_counts (is_plan_key w.key) (as_plan w.object) kind_of_key ∙ put)

  edge_there : PhaseEdge seen.plan new.phase → IsPlanEdge (view h by.namespace by.length) w.key (Some seen.plan.phase) new.phase
  edge_there edge =
      record {
        plan = seen.plan;
        stands =
            ap (λ (s : Slot). plan_at w.key s.object) (slot_in-view h by.namespace by.length w.key (own_visible by.namespace w.key own))
            ∙ was_seen;
        from = refl;
        edge = edge;
      }

  pub goes_with : (new.phase ≡ seen.plan.phase) ⊎ PhaseEdge seen.plan new.phase → GoesHere h w
  goes_with (inl stays) = Stays (is_now ∙ ap Some stays ∙ sym was)
  goes_with (inr edge) =
      GoesOn by.by seen.plan.phase new.phase by.length was is_now by.moment
      (subst (λ (ns : List ℕ). IsPlanEdge (view h ns by.length) w.key (Some seen.plan.phase) new.phase) (sym own) (edge_there edge))

by_installer : (is_valid : List ℕ → Bool) (h : History) (w : Write) → IsLawful is_valid (After w h) → IsKept is_valid (After w h)
    → (by : ByInstaller h w) → Carries (view h by.namespace by.length) (first_writes by.length h) w → GoesHere h w
by_installer is_valid h w lawful kept by (OfPlan seen new edge is) =
    goes_with is_valid h w kept by seen new (ap (λ (x : Write). x.key) is) (ap (λ (x : Write). x.expect) is)
    (ap (λ (x : Write). as_plan x.object) is) (phase_edge seen.plan new edge)
by_installer is_valid h w lawful kept by (OfStep seen i s n at is) =
    elsewhere h w
    (stamped_no_plan is_valid h w lawful (step_stamped (view h by.namespace by.length) w seen.plan.number i s is))

-- ---- each writer

goes_here : (is_valid : List ℕ → Bool) (h : History) (w : Write) → IsLawful is_valid (After w h) → IsKept is_valid (After w h)
    → By h w → GoesHere h w
goes_here is_valid h w lawful kept (OfUser by event) =
    by_user h w w.key by (plan_at w.key (slot h w.key).object) (plan_at w.key w.object) (kept_here None h event.0 w event.2).plan
goes_here is_valid h w lawful kept (OfGrant by grant) = elsewhere h w (lease_no_plan w.key (of_a_lease h w grant))
goes_here is_valid h w lawful kept (OfResolver by) = by_resolver is_valid h w kept by by.enabled
goes_here is_valid h w lawful kept (OfInstaller by) =
    by_installer is_valid h w lawful kept by (carries h w (base_in_order is_valid h kept.2) by)
goes_here is_valid h w lawful kept (OfPhases by) =
    let v = view h by.namespace by.length in elsewhere h w (all_aside v w (of_write v w by.enabled)).1.plan

pub plan_goes : (is_valid : List ℕ → Bool) (h : History) (w : Write) (key : Key) → IsLawful is_valid (After w h)
    → IsKept is_valid (After w h) → PlanGoes h w key (plan_phase_at h key) (plan_phase_at (After w h) key)
plan_goes is_valid h w key lawful kept = elim (same_or_other w h key) [
  | inl here ↦
      subst (λ (s : Slot). PlanGoes h w key (plan_phase_at h key) (plan_phase_of key s.object)) (sym here.1)
      (subst (λ (k : Key). PlanGoes h w k (plan_phase_at h k) (plan_phase_of k w.object)) here.0
      (goes_here is_valid h w lawful kept (who_had is_valid h w kept)))
  | inr other ↦ Stays (ap (λ (s : Slot). plan_phase_of key s.object) other.1)
]
