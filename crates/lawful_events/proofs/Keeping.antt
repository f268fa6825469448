-- What each write leaves at its own key, and at every key.
use Rattle.std.specs.Prelude.{ℤ}
use Rattle.std.proofs.Common.{◌≡◌, false, List, ℕ, Option, Some, None, Ok, refl, sym, ap, ◌∙◌, subst, inl, inr}
use Rattle.cluster_objects.specs.Kinds.{as_catalog, as_plan, as_resolution, is_catalog_key, is_claims_key, is_csv_key, is_lease_key, is_plan_key, is_resolution_key, is_subscription_key, csv_at, plan_at, subscription_at}
use Rattle.cluster_objects.specs.declared.keys.Key.{Key}
use Rattle.cluster_objects.specs.declared.objects.Object.{Object}
use Rattle.cluster_objects.specs.declared.objects.Status.{Status}
use Rattle.cluster_objects.specs.declared.objects.Status.TheVariants as status
use Rattle.cluster_objects.specs.declared.objects.Write.{Write}
use Rattle.cluster_objects.specs.declared.statuses.CsvPhase.TheVariants as csv
use Rattle.cluster_objects.specs.declared.statuses.CsvStatus.{CsvStatus}
use Rattle.cluster_objects.specs.declared.statuses.Readiness.{Readiness}
use Rattle.cluster_objects.specs.declared.statuses.SubState.TheVariants as sub
use Rattle.cluster_objects.specs.declared.statuses.SubscriptionStatus.{SubscriptionStatus}
use Rattle.cluster_history.specs.History.{History, After, position, slot}
use Rattle.cluster_history.specs.declared.slots.Slot.{Slot}
use Rattle.event_script.specs.declared.events.Event.{Event}
use Rattle.event_script.specs.declared.events.Event.TheVariants as event
use Rattle.lawful_history.specs.Lawful.{KeepsPhase, KeepsState}
use Rattle.lawful_history.proofs.Allowing.{as_plan-status}
use Rattle.lawful_history.proofs.Slots.{same_or_other}
use Rattle.object_bodies.specs.Heads.{is_forbidden}
use Rattle.object_bodies.specs.Laws.{IsNewAt}
use Rattle.cluster_objects.specs.Places.{catalog_key, claims_key, plan_key, deployment_key, resolution_key}
use Rattle.user_events.specs.Wishes.{applied, kept_csv, kept_subscription, new_catalog, written}
use Rattle.folder_events.specs.Events.{Asks}
use Rattle.folder_events.specs.Laws.{IsValid}
use Rattle.folder_events.proofs.Written.{writes_valid}
use Rattle.lawful_events.specs.Keeps.{KeepsPlan, KeepsResolution, KeepsCatalog}
use Rattle.lawful_events.proofs.Chains.{counts, counts_not, none_is_some, none_of, some_is}
use Rattle.lawful_events.proofs.Written.{applied_is, deleted_is, Approval, approved_is, readied_is, Releasing, released_is, Revival, retried_is, catalog_is}

-- what is kept of whatever stands at a key
pub record Keeps (key : Key) (before now : Option Object) : Type 0 where
  pub phase : KeepsPhase key before now
  pub state : KeepsState key before now
  pub plan : KeepsPlan key before now
  pub resolution : KeepsResolution key before now
  pub catalog : KeepsCatalog key before now

-- the phase of what was there, and none where nothing was
abbrev HasPhaseOf : CsvStatus → Option CsvStatus → Type 0
HasPhaseOf x found = elim found [ None ↦ x.phase ≡ csv.Nothing | Some y ↦ x.phase ≡ y.phase ]

abbrev HasStateOf : SubscriptionStatus → Option SubscriptionStatus → Type 0
HasStateOf x found = elim found [ None ↦ x.state ≡ sub.Nothing | Some y ↦ x.state ≡ y.state ]

-- ---- where nothing changes

same_phase : (found : Option CsvStatus) (x : CsvStatus) → found ≡ Some x → HasPhaseOf x found
same_phase None x is = absurd (none_is_some x is)
same_phase (Some y) x is = sym (ap (λ (c : CsvStatus). c.phase) (some_is y x is))

same_state : (found : Option SubscriptionStatus) (x : SubscriptionStatus) → found ≡ Some x → HasStateOf x found
same_state None x is = absurd (none_is_some x is)
same_state (Some y) x is = sym (ap (λ (s : SubscriptionStatus). s.state) (some_is y x is))

pub kept_alike : (key : Key) (object : Option Object) → Keeps key object object
kept_alike key object = record {
  phase = λ x is. same_phase (csv_at key object) x is;
  state = λ x is. same_state (subscription_at key object) x is;
  plan = λ new is. (new, is, inl refl);
  resolution = λ old is. (old, is, record { number = refl; basis = refl; outcome = refl; certificate = refl });
  catalog = λ c is. inl refl;
}

-- ---- apply

csv_phase : (found : Option CsvStatus) (new x : CsvStatus) → new.phase ≡ csv.Nothing → kept_csv found new ≡ x → HasPhaseOf x found
csv_phase None new x fresh is = sym (ap (λ (c : CsvStatus). c.phase) is) ∙ fresh
csv_phase (Some y) new x fresh is = sym (ap (λ (c : CsvStatus). c.phase) is)

applied_phase : (body : List ℕ) (key : Key) (old : Option Object) (seen : ℕ) (new : Status) → IsNewAt key new → KeepsPhase key old (Some (applied body new key old seen))
applied_phase body key old seen status.Plain fresh x is = absurd (none_is_some x (counts (is_csv_key key) None x is))
applied_phase body key old seen (status.Catalog c) fresh x is = absurd fresh
applied_phase body key old seen (status.Subscription s) fresh x is = absurd (none_is_some x (counts (is_csv_key key) None x is))
applied_phase body key old seen (status.Csv c) fresh x is =
    csv_phase (csv_at key old) c x fresh.1 (some_is (kept_csv (csv_at key old) c) x (counts (is_csv_key key) (Some (kept_csv (csv_at key old) c)) x is))
applied_phase body key old seen (status.Deployment r) fresh x is = absurd (none_is_some x (counts (is_csv_key key) None x is))
applied_phase body key old seen (status.Plan p) fresh x is = absurd fresh
applied_phase body key old seen (status.Resolution r) fresh x is = absurd fresh
applied_phase body key old seen (status.Strategy s) fresh x is = absurd (none_is_some x (counts (is_csv_key key) None x is))
applied_phase body key old seen (status.Group g) fresh x is = absurd (none_is_some x (counts (is_csv_key key) None x is))
applied_phase body key old seen (status.Claims c) fresh x is = absurd fresh
applied_phase body key old seen (status.Lease l) fresh x is = absurd fresh

subscription_state : (found : Option SubscriptionStatus) (new x : SubscriptionStatus) → new.state ≡ sub.Nothing → kept_subscription found new ≡ x → HasStateOf x found
subscription_state None new x fresh is = sym (ap (λ (s : SubscriptionStatus). s.state) is) ∙ fresh
subscription_state (Some y) new x fresh is = sym (ap (λ (s : SubscriptionStatus). s.state) is)

applied_state : (body : List ℕ) (key : Key) (old : Option Object) (seen : ℕ) (new : Status) → IsNewAt key new → KeepsState key old (Some (applied body new key old seen))
applied_state body key old seen status.Plain fresh x is = absurd (none_is_some x (counts (is_subscription_key key) None x is))
applied_state body key old seen (status.Catalog c) fresh x is = absurd fresh
applied_state body key old seen (status.Subscription s) fresh x is =
    subscription_state (subscription_at key old) s x fresh.1 (some_is (kept_subscription (subscription_at key old) s) x (counts (is_subscription_key key) (Some (kept_subscription (subscription_at key old) s)) x is))
applied_state body key old seen (status.Csv c) fresh x is = absurd (none_is_some x (counts (is_subscription_key key) None x is))
applied_state body key old seen (status.Deployment r) fresh x is = absurd (none_is_some x (counts (is_subscription_key key) None x is))
applied_state body key old seen (status.Plan p) fresh x is = absurd fresh
applied_state body key old seen (status.Resolution r) fresh x is = absurd fresh
applied_state body key old seen (status.Strategy s) fresh x is = absurd (none_is_some x (counts (is_subscription_key key) None x is))
applied_state body key old seen (status.Group g) fresh x is = absurd (none_is_some x (counts (is_subscription_key key) None x is))
applied_state body key old seen (status.Claims c) fresh x is = absurd fresh
applied_state body key old seen (status.Lease l) fresh x is = absurd fresh

applied_keeps : (body : List ℕ) (key : Key) (old : Option Object) (seen : ℕ) (new : Status) → is_forbidden key ≡ false → IsNewAt key new → Keeps key old (Some (applied body new key old seen))
applied_keeps body key old seen new free fresh =
    let none = none_of (is_plan_key key) (is_catalog_key key) (is_resolution_key key) (is_claims_key key) (is_lease_key key) free in
    let object = applied body new key old seen in
    record {
      phase = applied_phase body key old seen new fresh;
      state = applied_state body key old seen new fresh;
      plan = λ q is. absurd (counts_not (is_plan_key key) (as_plan (Some object)) q none.0 is);
      resolution = λ r is. absurd (counts_not (is_resolution_key key) (as_resolution old) r none.2 is);
      catalog = λ c is. absurd (counts_not (is_catalog_key key) (as_catalog (Some object)) c none.1 is);
    }

-- ---- delete

removed_keeps : (key : Key) (old : Option Object) → is_resolution_key key ≡ false → Keeps key old None
removed_keeps key old free = record {
  phase = λ x is. absurd (none_is_some x (counts (is_csv_key key) None x is));
  state = λ x is. absurd (none_is_some x (counts (is_subscription_key key) None x is));
  plan = λ q is. absurd (none_is_some q (counts (is_plan_key key) None q is));
  resolution = λ r is. absurd (counts_not (is_resolution_key key) (as_resolution old) r free is);
  catalog = λ c is. absurd (none_is_some c (counts (is_catalog_key key) None c is));
}

-- ---- approve

approval_keeps : (namespace name : List ℕ) (old : Option Object) (seen : ℕ) (new : Option Object) → Approval old seen new → Keeps (plan_key namespace name) old new
approval_keeps namespace name old seen new a =
    let key = plan_key namespace name in
    let there : plan_at key old ≡ Some a.plan = ap (λ (o : Option Object). plan_at key o) a.there ∙ as_plan-status a.object a.plan a.stands in
    subst (λ (o : Option Object). Keeps key old o) a.made (record {
      phase = λ x is. absurd (none_is_some x is);
      state = λ x is. absurd (none_is_some x is);
      plan = λ q is. (a.plan, there, inr (a.waits, sym (some_is _ q is)));
      resolution = λ r is. absurd (none_is_some r is);
      catalog = λ c is. absurd (none_is_some c is);
    })

-- ---- ready

ready_keeps : (namespace name : List ℕ) (old : Option Object) (body : List ℕ) (state : Readiness) (owner : Option (List ℕ)) (seen : ℕ) → Keeps (deployment_key namespace name) old (Some (written body (status.Deployment state) owner seen))
ready_keeps namespace name old body state owner seen = record {
  phase = λ x is. absurd (none_is_some x is);
  state = λ x is. absurd (none_is_some x is);
  plan = λ q is. absurd (none_is_some q is);
  resolution = λ r is. absurd (none_is_some r is);
  catalog = λ c is. absurd (none_is_some c is);
}

-- ---- release

releasing_keeps : (old : Option Object) (seen : ℕ) (new : Option Object) → Releasing old seen new → Keeps claims_key old new
releasing_keeps old seen new r =
    subst (λ (o : Option Object). Keeps claims_key old o) r.made (record {
      phase = λ x is. absurd (none_is_some x is);
      state = λ x is. absurd (none_is_some x is);
      plan = λ q is. absurd (none_is_some q is);
      resolution = λ was is. absurd (none_is_some was is);
      catalog = λ c is. absurd (none_is_some c is);
    })

-- ---- retry

revival_keeps : (namespace : List ℕ) (old : Option Object) (seen : ℕ) (new : Object) → Revival (resolution_key namespace) old seen new → Keeps (resolution_key namespace) old (Some new)
revival_keeps namespace old seen new r =
    subst (λ (o : Object). Keeps (resolution_key namespace) old (Some o)) r.made (record {
      phase = λ x is. absurd (none_is_some x is);
      state = λ x is. absurd (none_is_some x is);
      plan = λ q is. absurd (none_is_some q is);
      resolution = λ was is. (r.decision, refl, r.same was is);
      catalog = λ c is. absurd (none_is_some c is);
    })

-- ---- catalog

catalog_keeps : (namespace name : List ℕ) (old : Option Object) (text : List ℕ) (priority : ℤ) (seen : ℕ) → IsValid text → Keeps (catalog_key namespace name) old (Some (new_catalog text priority seen))
catalog_keeps namespace name old text priority seen valid = record {
  phase = λ x is. absurd (none_is_some x is);
  state = λ x is. absurd (none_is_some x is);
  plan = λ q is. absurd (none_is_some q is);
  resolution = λ r is. absurd (none_is_some r is);
  catalog = λ c is. inr valid;
}

-- ---- each event

pub kept_here : (files : Option (List (List ℕ × List ℕ))) (h : History) (cause : Event) (w : Write) → Asks files h cause (Ok w) → Keeps w.key (slot h w.key).object w.object
kept_here files h (event.Apply body) w asks =
    let is = applied_is h body w asks in
    subst (λ (x : Write). Keeps x.key (slot h x.key).object x.object) is.write (applied_keeps body is.key (slot h is.key).object (position h) is.new is.free is.fresh)
kept_here files h (event.Delete group kind namespace name) w asks =
    let key : Key = record { group = group; kind = kind; namespace = namespace; name = name } in
    let is = deleted_is h key w asks in
    subst (λ (x : Write). Keeps x.key (slot h x.key).object x.object) is.write (removed_keeps key (slot h key).object is.resolution)
kept_here files h (event.Approve namespace name) w asks =
    let is = approved_is h namespace name w asks in
    subst (λ (x : Write). Keeps x.key (slot h x.key).object x.object) is.write (approval_keeps namespace name (slot h (plan_key namespace name)).object (position h) is.new is.approval)
kept_here files h (event.Catalog namespace name path priority) w asks =
    let is = catalog_is files h namespace name path priority w asks in
    let valid = writes_valid files h (event.Catalog namespace name path priority) w asks (new_catalog is.text is.priority (position h)) (record { priority = is.priority }) (ap (λ (x : Write). x.object) (sym is.write)) refl in
    subst (λ (x : Write). Keeps x.key (slot h x.key).object x.object) is.write (catalog_keeps namespace name (slot h (catalog_key namespace name)).object is.text is.priority (position h) valid)
kept_here files h (event.Ready namespace name state) w asks =
    let is = readied_is h namespace name state w asks in
    subst (λ (x : Write). Keeps x.key (slot h x.key).object x.object) is.1 (ready_keeps namespace name (slot h (deployment_key namespace name)).object is.0.body state is.0.owner (position h))
kept_here files h (event.Retry namespace budget) w asks =
    let is = retried_is h namespace budget w asks in
    subst (λ (x : Write). Keeps x.key (slot h x.key).object x.object) is.write (revival_keeps namespace (slot h (resolution_key namespace)).object (position h) is.new is.revival)
kept_here files h (event.Worker role namespace) w asks = absurd asks
kept_here files h (event.Look worker) w asks = absurd asks
kept_here files h (event.Act worker) w asks = absurd asks
kept_here files h (event.Settle namespace turns) w asks = absurd asks
kept_here files h event.Restart w asks = absurd asks
kept_here files h (event.Release namespace) w asks =
    let is = released_is h namespace w asks in
    subst (λ (x : Write). Keeps x.key (slot h x.key).object x.object) is.write (releasing_keeps (slot h claims_key).object (position h) is.new is.releasing)
kept_here files h (event.Lease worker now keep) w asks = absurd asks

-- a write changes the slot of its key, and no other
pub kept_everywhere : (h : History) (w : Write) → Keeps w.key (slot h w.key).object w.object → (key : Key) → Keeps key (slot h key).object (slot (After w h) key).object
kept_everywhere h w here key = elim (same_or_other w h key) [
  | inl is ↦ subst (λ (s : Slot). Keeps key (slot h key).object s.object) (sym is.1) (subst (λ (k : Key). Keeps k (slot h k).object w.object) is.0 here)
  | inr is ↦ subst (λ (s : Slot). Keeps key (slot h key).object s.object) (sym is.1) (kept_alike key (slot h key).object)
]

pub kept : (files : Option (List (List ℕ × List ℕ))) (h : History) (cause : Event) (w : Write) → Asks files h cause (Ok w) → (key : Key) → Keeps key (slot h key).object (slot (After w h) key).object
kept files h cause w asks = kept_everywhere h w (kept_here files h cause w asks)
