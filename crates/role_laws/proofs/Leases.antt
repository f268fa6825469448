-- One write and the lease of a role: it stays, or a grant puts the next one.
use Rattle.std.proofs.Common.{◌≡◌, inl, Bool, false, List, ℕ, None, ap, ◌∙◌}
use Rattle.cluster_objects.specs.Kinds.{as_plan, is_lease_key}
use Rattle.cluster_objects.specs.declared.objects.Write.{Write}
use Rattle.cluster_objects.specs.declared.objects.Writer.{Writer}
use Rattle.cluster_history.specs.History.{After, History, first_writes}
use Rattle.cluster_history.specs.Views.{View, view}
use Rattle.object_bodies.specs.Laws.{AreMadeNew}
use Rattle.lawful_history.specs.Installing.{install_key}
use Rattle.lawful_history.specs.Sound.{IsLawful}
use Rattle.lawful_history.proofs.Allowing.{as_plan-status}
use Rattle.lawful_history.proofs.Law.{sound}
use Rattle.lease_fence.specs.Leases.{lease_of}
use Rattle.lease_fence.specs.Order.{LeaseLater}
use Rattle.lease_fence.proofs.Standing.{each_later, other_stays}
use Rattle.csv_phases.proofs.Taking.{of_write}
use Rattle.controller_rules.specs.Lawful.{is_open}
use Rattle.controller_rules.specs.Resolving.{Decides, IsResolversWrite, Plans}
use Rattle.lawful_events.proofs.Chains.{true_or_false}
use Rattle.lawful_events.proofs.Ruled.{ruled}
use Rattle.lawful_roles.specs.Roles.{IsKept}
use Rattle.role_laws.proofs.Carrying.{Carries, OfPlan, OfStep, carries}
use Rattle.role_laws.proofs.Kept.{By, ByInstaller, OfGrant, OfInstaller, OfPhases, OfResolver, OfUser, base_in_order, first_kept, who_had}
use Rattle.role_laws.proofs.Separate.{plan_no_lease}
use Rattle.role_laws.proofs.Phasing.{no_lease}
use Rattle.role_laws.proofs.Sparing.{all_spared}

-- the resolver writes no lease
no_lease_key : (v : View) (w : Write) → IsResolversWrite v w → is_lease_key w.key ≡ false
unfolding install_key
no_lease_key v w (Decides rest due new next is) = ap (λ (x : Write). is_lease_key x.key) is
no_lease_key v w (Plans rest decision stands due is) = ap (λ (x : Write). is_lease_key x.key) is

module _ (law : (namespace body : List ℕ) → AreMadeNew namespace body) (is_valid : List ℕ → Bool)
    (lawful : (h : History) → IsKept is_valid h → IsLawful is_valid h) where
  -- nor the installer: the step that it writes could be written when it was seen
  spared : (h : History) (w : Write) → IsKept is_valid h → (by : ByInstaller h w)
      → Carries (view h by.namespace by.length) (first_writes by.length h) w → is_lease_key w.key ≡ false
  spared h w kept by (OfPlan seen new edge is) = ap (λ (x : Write). is_lease_key x.key) is ∙ plan_no_lease seen.key seen.kind
  spared h w kept by (OfStep seen i s n at is) =
      let g = first_writes by.length h in
      let old = first_kept is_valid h by.length kept in
      let last = (sound is_valid g (lawful g old)).there seen.key seen.plan seen.kind
      (ap as_plan seen.there ∙ as_plan-status seen.object seen.plan seen.status) in
      ap (λ (x : Write). is_lease_key x.key) is
      ∙ all_spared law is_valid lawful g old seen.key seen.plan i s seen.kind last at.at (ap is_open at.state)

  module _ (h : History) (w : Write) (namespace : List ℕ) (role : Writer) (kept : IsKept is_valid (After w h)) where
    stays : is_lease_key w.key ≡ false → LeaseLater (lease_of h namespace role) (lease_of (After w h) namespace role)
    stays other = inl (other_stays h w namespace role (λ e. true_or_false (is_lease_key w.key) (ap is_lease_key e) other))

    by_writer : By h w → LeaseLater (lease_of h namespace role) (lease_of (After w h) namespace role)
    by_writer (OfUser by event) = stays (ruled None h event.0 w event.2).lease
    by_writer (OfGrant by grant) = each_later h w namespace role grant
    by_writer (OfResolver by) = stays (no_lease_key _ w by.enabled)
    by_writer (OfInstaller by) = stays (spared h w kept.2 by (carries h w (base_in_order is_valid h kept.2) by))
    by_writer (OfPhases by) =
        let v = view h by.namespace by.length in stays (no_lease v w (of_write v w by.enabled))

    pub lease_later : LeaseLater (lease_of h namespace role) (lease_of (After w h) namespace role)
    lease_later = by_writer (who_had is_valid h w kept)
