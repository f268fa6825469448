-- Each write is allowed, and which writes are neutral.
use Rattle.std.proofs.Common.{◌≡◌, Bool, false, List, [], ℕ, Option, Some, None, Ok, refl, sym, ap, subst}
use Rattle.cluster_objects.specs.Kinds.{is_catalog_key, is_claims_key, is_lease_key, is_plan_key, is_resolution_key}
use Rattle.cluster_objects.specs.Stamps.{stamps_of}
use Rattle.cluster_objects.specs.declared.keys.Key.{Key}
use Rattle.cluster_objects.specs.declared.objects.Object.{Object}
use Rattle.cluster_objects.specs.declared.objects.Status.TheVariants as status
use Rattle.cluster_objects.specs.declared.objects.Write.{Write}
use Rattle.cluster_history.specs.History.{History, After, position, slot}
use Rattle.event_script.specs.declared.events.Event.{Event}
use Rattle.event_script.specs.declared.events.Event.TheVariants as event
use Rattle.lawful_history.specs.Lawful.{IsAllowed, Aside, Removes, Approves, IsNeutral}
use Rattle.lawful_history.specs.Sound.{IsLawful}
use Rattle.lawful_history.proofs.Catalogs.{elsewhere}
use Rattle.user_events.specs.Asked.{apply}
use Rattle.cluster_objects.specs.Places.{claims_key, plan_key, deployment_key, resolution_key}
use Rattle.user_events.specs.Wishes.{applied, new_catalog, with_status, written}
use Rattle.folder_events.specs.Events.{Asks}
use Rattle.lawful_events.specs.Runs.{Accepts}
use Rattle.folder_events.proofs.Written.{writes_valid}
use Rattle.lawful_events.proofs.Chains.{none_of}
use Rattle.lawful_events.proofs.Keeping.{kept_here}
use Rattle.lawful_events.proofs.Ruled.{ruled}
use Rattle.lawful_events.proofs.Written.{write_at, applied_is, deleted_is, Approval, approved_is, readied_is, released_is, retried_is, catalog_is}

module _ (is_valid : List ℕ → Bool) (accepts : Accepts is_valid) (files : Option (List (List ℕ × List ℕ))) (h : History) where
  -- what has no stamp and is of no plan and of no catalog
  plain : (w : Write) → stamps_of w.object ≡ [] → is_plan_key w.key ≡ false → is_catalog_key w.key ≡ false → IsAllowed is_valid h w
  plain w bare apart other = Aside bare apart (elsewhere is_valid w.key w.object other)

  approval_allowed : (namespace name : List ℕ) (new : Option Object) → Approval (slot h (plan_key namespace name)).object (position h) new → IsAllowed is_valid h (write_at h (plan_key namespace name) new)
  approval_allowed namespace name new a = Approves refl a.object a.plan refl a.there a.stands (sym a.made)

  pub allowed : (cause : Event) (w : Write) → Asks files h cause (Ok w) → IsAllowed is_valid h w
  allowed (event.Apply body) w asks =
      let is = applied_is h body w asks in
      let none = none_of (is_plan_key is.key) (is_catalog_key is.key) (is_resolution_key is.key) (is_claims_key is.key) (is_lease_key is.key) is.free in
      subst (λ (x : Write). IsAllowed is_valid h x) is.write (plain (write_at h is.key (Some (applied body is.new is.key (slot h is.key).object (position h)))) refl none.0 none.1)
  allowed (event.Delete group kind namespace name) w asks =
      let key : Key = record { group = group; kind = kind; namespace = namespace; name = name } in
      let is = deleted_is h key w asks in
      subst (λ (x : Write). IsAllowed is_valid h x) is.write (Removes refl refl)
  allowed (event.Approve namespace name) w asks =
      let is = approved_is h namespace name w asks in
      subst (λ (x : Write). IsAllowed is_valid h x) is.write (approval_allowed namespace name is.new is.approval)
  allowed (event.Catalog namespace name path priority) w asks =
      let is = catalog_is files h namespace name path priority w asks in
      let valid = writes_valid files h (event.Catalog namespace name path priority) w asks (new_catalog is.text is.priority (position h)) (record { priority = is.priority }) (ap (λ (x : Write). x.object) (sym is.write)) refl in
      subst (λ (x : Write). IsAllowed is_valid h x) is.write (Aside refl refl (λ c there. accepts is.text valid))
  allowed (event.Ready namespace name state) w asks =
      let is = readied_is h namespace name state w asks in
      subst (λ (x : Write). IsAllowed is_valid h x) is.1 (plain (write_at h (deployment_key namespace name) (Some (with_status is.0 (status.Deployment state) (position h)))) refl refl refl)
  allowed (event.Retry namespace budget) w asks =
      let is = retried_is h namespace budget w asks in
      subst (λ (x : Write). IsAllowed is_valid h x) is.write
      (subst (λ (o : Object). IsAllowed is_valid h (write_at h (resolution_key namespace) (Some o))) is.revival.made
      (plain (write_at h (resolution_key namespace) (Some (written is.revival.body (status.Resolution is.revival.decision) is.revival.owner (position h)))) refl refl refl))
  allowed (event.Worker role namespace) w asks = absurd asks
  allowed (event.Look worker) w asks = absurd asks
  allowed (event.Act worker) w asks = absurd asks
  allowed (event.Settle namespace turns) w asks = absurd asks
  allowed event.Restart w asks = absurd asks
  allowed (event.Release namespace) w asks =
      let is = released_is h namespace w asks in
      let r = is.releasing in
      subst (λ (x : Write). IsAllowed is_valid h x) is.write
      (subst (λ (o : Option Object). IsAllowed is_valid h (write_at h claims_key o)) r.made
      (plain (write_at h claims_key (Some (with_status r.object (status.Claims r.claims) (position h)))) refl refl refl))
  allowed (event.Lease worker now keep) w asks = absurd asks

  pub stays_lawful : (cause : Event) (w : Write) → Asks files h cause (Ok w) → IsLawful is_valid h → IsLawful is_valid (After w h)
  stays_lawful cause w asks lawful = ((ruled files h cause w asks).expect, allowed cause w asks, lawful)

-- a write of no plan, resolution or catalog
pub neutral : (files : Option (List (List ℕ × List ℕ))) (h : History) (cause : Event) (w : Write) → Asks files h cause (Ok w) → is_plan_key w.key ≡ false → is_resolution_key w.key ≡ false → is_catalog_key w.key ≡ false → IsNeutral h w
neutral files h cause w asks plan resolution catalog =
    let here = kept_here files h cause w asks in
    record { bare = (ruled files h cause w asks).stamp; plan = plan; resolution = resolution; catalog = catalog; phase = here.phase; state = here.state }

pub applied_neutral : (h : History) (body : List ℕ) (w : Write) → apply h body ≡ Ok w → IsNeutral h w
applied_neutral h body w asks =
    let is = applied_is h body w asks in
    let none = none_of (is_plan_key is.key) (is_catalog_key is.key) (is_resolution_key is.key) (is_claims_key is.key) (is_lease_key is.key) is.free in
    let same : is.key ≡ w.key = ap (λ (x : Write). x.key) is.write in
    neutral None h (event.Apply body) w asks
    (subst (λ (k : Key). is_plan_key k ≡ false) same none.0) (subst (λ (k : Key). is_resolution_key k ≡ false) same none.2) (subst (λ (k : Key). is_catalog_key k ≡ false) same none.1)
