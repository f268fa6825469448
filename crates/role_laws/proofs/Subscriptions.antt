-- One write and the state of the Subscription at a key.
use Rattle.std.proofs.Common.{◌≡◌, inl, inr, Bool, true, false, List, ℕ, Option, Some, None, refl, sym, ap, ◌∙◌, subst}
use Rattle.std.specs.Option.{option_map}
use Rattle.cluster_objects.specs.Kinds.{as_subscription, is_subscription_key, subscription_at}
use Rattle.cluster_objects.specs.declared.keys.Key.{Key}
use Rattle.cluster_objects.specs.declared.objects.Write.{Write}
use Rattle.cluster_objects.specs.declared.objects.Writer.TheVariants as writer
use Rattle.cluster_objects.specs.declared.statuses.SubState.{SubState}
use Rattle.cluster_objects.specs.declared.statuses.SubState.TheVariants as state
use Rattle.cluster_objects.specs.declared.statuses.SubscriptionStatus.{SubscriptionStatus}
use Rattle.cluster_history.specs.History.{After, History, first_writes, slot, slot_in}
use Rattle.cluster_history.specs.Views.{View, view}
use Rattle.cluster_history.specs.declared.slots.Slot.{Slot}
use Rattle.lawful_history.specs.Installing.{install_key}
use Rattle.lawful_history.specs.Sound.{IsLawful}
use Rattle.lawful_history.proofs.Slots.{same_or_other}
use Rattle.history_laws.proofs.Putting.{spares_subscription, subscription_state}
use Rattle.csv_phases.specs.States.{IsSubscriptionEdge}
use Rattle.csv_phases.proofs.Taking.{of_write}
use Rattle.controller_rules.specs.Resolving.{Decides, IsResolversWrite, Plans}
use Rattle.lease_fence.proofs.Standing.{of_a_lease}
use Rattle.lawful_events.proofs.Keeping.{kept_here}
use Rattle.lawful_roles.specs.Roles.{IsKept}
use Rattle.role_laws.specs.Subscriptions.{IsNew, IsRemoved, Stays, SubscriptionGoes, TakesEdge, state_at, state_of}
use Rattle.role_laws.proofs.Carrying.{Carries, OfPlan, OfStep, carries, step_stamped}
use Rattle.role_laws.proofs.Kept.{By, ByPhases, OfGrant, OfInstaller, OfPhases, OfResolver, OfUser, base_in_order, found, kept_in_order, own_visible, who_had}
use Rattle.role_laws.proofs.Separate.{counts_none, lease_no_subscription, plan_no_subscription}
use Rattle.role_laws.proofs.Phasing.{LeadsSubscription, leads_subscription}

abbrev state_in : Option SubscriptionStatus → Option SubState
state_in found = option_map (λ (subscription : SubscriptionStatus). subscription.state) found

-- the resolver writes no Subscription
no_subscription_key : (v : View) (w : Write) → IsResolversWrite v w → is_subscription_key w.key ≡ false
unfolding install_key
no_subscription_key v w (Decides rest due new next is) = ap (λ (x : Write). is_subscription_key x.key) is
no_subscription_key v w (Plans rest decision stands due is) = ap (λ (x : Write). is_subscription_key x.key) is

-- what the write makes of the Subscription at its own key
abbrev GoesHere : History → Write → Type 0
GoesHere h w = SubscriptionGoes h w w.key (state_at h w.key) (state_of w.key w.object)

-- a key of another kind has no Subscription
elsewhere : (h : History) (w : Write) → is_subscription_key w.key ≡ false → GoesHere h w
elsewhere h w other =
    Stays (ap state_in (counts_none (is_subscription_key w.key) (as_subscription w.object) other
    ∙ sym (counts_none (is_subscription_key w.key) (as_subscription (slot h w.key).object) other)))

-- the state of what was there, and none where nothing was
abbrev HasStateOf : SubscriptionStatus → Option SubscriptionStatus → Type 0
HasStateOf x old = elim old [ None ↦ x.state ≡ state.Nothing | Some y ↦ x.state ≡ y.state ]

-- a user keeps the state, or removes the Subscription, or makes a new one
by_user : (h : History) (w : Write) (key : Key) → w.by ≡ writer.User → (old new : Option SubscriptionStatus)
    → ((x : SubscriptionStatus) → new ≡ Some x → HasStateOf x old)
    → SubscriptionGoes h w key (state_in old) (state_in new)
by_user h w key user old None keeps = IsRemoved user refl
by_user h w key user None (Some x) keeps = IsNew refl (ap Some (keeps x refl))
by_user h w key user (Some y) (Some x) keeps = Stays (ap Some (keeps x refl))

-- a step's object is written over no Subscription, and has no state
by_step : (h : History) (w : Write) (key : Key) (old new : Option SubscriptionStatus) → old ≡ None
    → ((x : SubscriptionStatus) → new ≡ Some x → x.state ≡ state.Nothing) → SubscriptionGoes h w key (state_in old) (state_in new)
by_step h w key old None free starts = Stays (sym (ap state_in free))
by_step h w key old (Some x) free starts = IsNew (ap state_in free) (ap Some (starts x refl))

by_installer : (is_valid : List ℕ → Bool) (h : History) (w : Write) → IsLawful is_valid (After w h)
    → (v : View) (g : History) → Carries v g w → GoesHere h w
by_installer is_valid h w lawful v g (OfPlan seen new edge is) =
    elsewhere h w (ap (λ (x : Write). is_subscription_key x.key) is ∙ plan_no_subscription seen.key seen.kind)
by_installer is_valid h w lawful v g (OfStep seen i s n at is) =
    let has = step_stamped v w seen.plan.number i s is in
    by_step h w w.key (subscription_at w.key (slot h w.key).object) (subscription_at w.key w.object)
    (spares_subscription is_valid h w has.object has.stamp lawful has.puts has.stamped)
    (subscription_state is_valid h w has.object has.stamp lawful has.puts has.stamped)

by_edge : (is_valid : List ℕ → Bool) (h : History) (w : Write) → IsKept is_valid (After w h) → (by : ByPhases h w)
    → LeadsSubscription (view h by.namespace by.length) w → GoesHere h w
by_edge is_valid h w kept by leads =
    let there : slot_in (view h by.namespace by.length).slots w.key ≡ slot h w.key =
    found is_valid h w by.namespace by.length kept (own_visible by.namespace w.key leads.own) leads.expects in
    TakesEdge by.by leads.old.state leads.new.state by.length
    (ap (λ (x : Slot). state_of w.key x.object) (sym there) ∙ ap state_in leads.there) (ap state_in leads.put) by.moment
    (subst (λ (ns : List ℕ). IsSubscriptionEdge (view h ns by.length) w.key leads.old.state leads.new.state) (sym leads.own) leads.edge)

by_phases : (is_valid : List ℕ → Bool) (h : History) (w : Write) → IsKept is_valid (After w h) → ByPhases h w
    → (b : Bool) → is_subscription_key w.key ≡ b → GoesHere h w
by_phases is_valid h w kept by true kind =
    let v = view h by.namespace by.length in
    by_edge is_valid h w kept by
    (leads_subscription v w (kept_in_order is_valid h by.namespace by.length kept.2) kind (of_write v w by.enabled))
by_phases is_valid h w kept by false kind = elsewhere h w kind

goes_here : (is_valid : List ℕ → Bool) (h : History) (w : Write) → IsLawful is_valid (After w h) → IsKept is_valid (After w h)
    → By h w → GoesHere h w
goes_here is_valid h w lawful kept (OfUser by event) =
    by_user h w w.key by (subscription_at w.key (slot h w.key).object) (subscription_at w.key w.object)
    (kept_here None h event.0 w event.2).state
goes_here is_valid h w lawful kept (OfGrant by grant) = elsewhere h w (lease_no_subscription w.key (of_a_lease h w grant))
goes_here is_valid h w lawful kept (OfResolver by) = elsewhere h w (no_subscription_key _ w by.enabled)
goes_here is_valid h w lawful kept (OfInstaller by) =
    by_installer is_valid h w lawful (view h by.namespace by.length) (first_writes by.length h)
    (carries h w (base_in_order is_valid h kept.2) by)
goes_here is_valid h w lawful kept (OfPhases by) = by_phases is_valid h w kept by (is_subscription_key w.key) refl

pub subscription_goes : (is_valid : List ℕ → Bool) (h : History) (w : Write) (key : Key) → IsLawful is_valid (After w h)
    → IsKept is_valid (After w h) → SubscriptionGoes h w key (state_at h key) (state_at (After w h) key)
subscription_goes is_valid h w key lawful kept = elim (same_or_other w h key) [
  | inl here ↦
      subst (λ (s : Slot). SubscriptionGoes h w key (state_at h key) (state_of key s.object)) (sym here.1)
      (subst (λ (k : Key). SubscriptionGoes h w k (state_at h k) (state_of k w.object)) here.0
      (goes_here is_valid h w lawful kept (who_had is_valid h w kept)))
  | inr other ↦ Stays (ap (λ (s : Slot). state_of key s.object) other.1)
]
