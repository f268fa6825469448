-- Each write keeps the rules of users.
use Rattle.std.specs.Prelude.{ℤ}
use Rattle.std.proofs.Common.{◌≡◌, true, false, List, ℕ, Option, Some, None, Ok, refl, sym, ap, ◌∙◌, subst, inl, inr}
use Rattle.cluster_objects.specs.Kinds.{is_catalog_key, is_claims_key, is_lease_key, is_plan_key, is_resolution_key}
use Rattle.cluster_objects.specs.declared.groups.ClaimsStatus.{ClaimsStatus}
use Rattle.cluster_objects.specs.declared.keys.Key.{Key}
use Rattle.cluster_objects.specs.declared.objects.Object.{Object}
use Rattle.cluster_objects.specs.declared.objects.Status.{Status}
use Rattle.cluster_objects.specs.declared.objects.Status.TheVariants as status
use Rattle.cluster_objects.specs.declared.objects.Write.{Write}
use Rattle.cluster_objects.specs.declared.statuses.Readiness.{Readiness}
use Rattle.cluster_history.specs.History.{History, position, slot}
use Rattle.event_script.specs.declared.events.Event.{Event}
use Rattle.event_script.specs.declared.events.Event.TheVariants as event
use Rattle.object_bodies.specs.Heads.{is_forbidden}
use Rattle.cluster_objects.specs.Places.{catalog_key, claims_key, plan_key, deployment_key, resolution_key}
use Rattle.user_events.specs.Wishes.{applied, new_catalog, written}
use Rattle.folder_events.specs.Events.{Asks}
use Rattle.folder_events.specs.Laws.{IsValid}
use Rattle.folder_events.proofs.Written.{writes_valid}
use Rattle.lawful_events.specs.Rules.{KeepsRules}
use Rattle.lawful_events.proofs.Chains.{none_is_some, none_of, some_is, true_or_false}
use Rattle.lawful_events.proofs.Written.{write_at, applied_is, deleted_is, approved_is, readied_is, released_is, retried_is, catalog_is}

-- what a user puts has the history's length
seen_of : (body : List ℕ) (new : Status) (owner : Option (List ℕ)) (seen : ℕ) (object : Object) → ◌≡◌ {A = Option Object} (Some (written body new owner seen)) (Some object) → object.seen ≡ seen
seen_of body new owner seen object is = sym (ap (λ (o : Object). o.seen) (some_is (written body new owner seen) object is))

some_is_none : (object : Object) → ◌≡◌ {A = Option Object} (Some object) None → ⊥
some_is_none object e = cc

applied_rules : (h : History) (bytes body : List ℕ) (key : Key) (new : Status) (owner : Option (List ℕ)) → is_forbidden key ≡ false → KeepsRules h (event.Apply bytes) (write_at h key (Some (written body new owner (position h))))
applied_rules h bytes body key new owner free =
    let none = none_of (is_plan_key key) (is_catalog_key key) (is_resolution_key key) (is_claims_key key) (is_lease_key key) free in
    record {
      by = refl;
      expect = refl;
      stamp = refl;
      seen = λ object is. seen_of body new owner (position h) object is;
      removal = λ is. absurd (some_is_none (written body new owner (position h)) is);
      resolution = λ is. absurd (true_or_false (is_resolution_key key) is none.2);
      plan = λ is. absurd (true_or_false (is_plan_key key) is none.0);
      catalog = λ is. absurd (true_or_false (is_catalog_key key) is none.1);
      claims = λ is. absurd (true_or_false (is_claims_key key) is none.3);
      lease = none.4;
    }

removed_rules : (h : History) (group kind namespace name : List ℕ) (key : Key) → is_resolution_key key ≡ false → is_claims_key key ≡ false → is_lease_key key ≡ false
    → KeepsRules h (event.Delete group kind namespace name) (write_at h key None)
removed_rules h group kind namespace name key free unclaimed unleased = record {
  by = refl;
  expect = refl;
  stamp = refl;
  seen = λ object is. absurd (none_is_some object is);
  removal = λ is. refl;
  resolution = λ is. absurd (true_or_false (is_resolution_key key) is free);
  plan = λ is. inl refl;
  catalog = λ is. inl refl;
  claims = λ is. absurd (true_or_false (is_claims_key key) is unclaimed);
  lease = unleased;
}

approval_rules : (h : History) (namespace name body : List ℕ) (new : Status) (owner : Option (List ℕ)) → KeepsRules h (event.Approve namespace name) (write_at h (plan_key namespace name) (Some (written body new owner (position h))))
approval_rules h namespace name body new owner = record {
  by = refl;
  expect = refl;
  stamp = refl;
  seen = λ object is. seen_of body new owner (position h) object is;
  removal = λ is. absurd (some_is_none (written body new owner (position h)) is);
  resolution = λ is. absurd (true_or_false (is_resolution_key (plan_key namespace name)) is refl);
  plan = λ is. inr (refl, (written body new owner (position h), refl));
  catalog = λ is. absurd (true_or_false (is_catalog_key (plan_key namespace name)) is refl);
  claims = λ is. absurd (true_or_false (is_claims_key (plan_key namespace name)) is refl);
  lease = refl;
}

ready_rules : (h : History) (namespace name body : List ℕ) (state : Readiness) (new : Status) (owner : Option (List ℕ)) → KeepsRules h (event.Ready namespace name state) (write_at h (deployment_key namespace name) (Some (written body new owner (position h))))
ready_rules h namespace name body state new owner = record {
  by = refl;
  expect = refl;
  stamp = refl;
  seen = λ object is. seen_of body new owner (position h) object is;
  removal = λ is. absurd (some_is_none (written body new owner (position h)) is);
  resolution = λ is. absurd (true_or_false (is_resolution_key (deployment_key namespace name)) is refl);
  plan = λ is. absurd (true_or_false (is_plan_key (deployment_key namespace name)) is refl);
  catalog = λ is. absurd (true_or_false (is_catalog_key (deployment_key namespace name)) is refl);
  claims = λ is. absurd (true_or_false (is_claims_key (deployment_key namespace name)) is refl);
  lease = refl;
}

release_rules : (h : History) (namespace body : List ℕ) (claims : ClaimsStatus) (owner : Option (List ℕ))
    → KeepsRules h (event.Release namespace) (write_at h claims_key (Some (written body (status.Claims claims) owner (position h))))
release_rules h namespace body claims owner = record {
  by = refl;
  expect = refl;
  stamp = refl;
  seen = λ object is. seen_of body (status.Claims claims) owner (position h) object is;
  removal = λ is. absurd (some_is_none (written body (status.Claims claims) owner (position h)) is);
  resolution = λ is. absurd (true_or_false (is_resolution_key claims_key) is refl);
  plan = λ is. absurd (true_or_false (is_plan_key claims_key) is refl);
  catalog = λ is. absurd (true_or_false (is_catalog_key claims_key) is refl);
  claims = λ is. (refl, (written body (status.Claims claims) owner (position h), refl));
  lease = refl;
}

retry_rules : (h : History) (namespace : List ℕ) (budget : Option ℕ) (body : List ℕ) (new : Status) (owner : Option (List ℕ)) → KeepsRules h (event.Retry namespace budget) (write_at h (resolution_key namespace) (Some (written body new owner (position h))))
retry_rules h namespace budget body new owner = record {
  by = refl;
  expect = refl;
  stamp = refl;
  seen = λ object is. seen_of body new owner (position h) object is;
  removal = λ is. absurd (some_is_none (written body new owner (position h)) is);
  resolution = λ is. (refl, (written body new owner (position h), refl));
  plan = λ is. absurd (true_or_false (is_plan_key (resolution_key namespace)) is refl);
  catalog = λ is. absurd (true_or_false (is_catalog_key (resolution_key namespace)) is refl);
  claims = λ is. absurd (true_or_false (is_claims_key (resolution_key namespace)) is refl);
  lease = refl;
}

catalog_rules : (h : History) (namespace name path : List ℕ) (priority : Option ℤ) (text : List ℕ) (given : ℤ) → IsValid text
    → KeepsRules h (event.Catalog namespace name path priority) (write_at h (catalog_key namespace name) (Some (new_catalog text given (position h))))
catalog_rules h namespace name path priority text given valid = record {
  by = refl;
  expect = refl;
  stamp = refl;
  seen = λ object is. seen_of text (status.Catalog (record { priority = given })) None (position h) object is;
  removal = λ is. absurd (some_is_none (new_catalog text given (position h)) is);
  resolution = λ is. absurd (true_or_false (is_resolution_key (catalog_key namespace name)) is refl);
  plan = λ is. absurd (true_or_false (is_plan_key (catalog_key namespace name)) is refl);
  catalog = λ is. inr (refl, (new_catalog text given (position h), refl, valid));
  claims = λ is. absurd (true_or_false (is_claims_key (catalog_key namespace name)) is refl);
  lease = refl;
}

pub ruled : (files : Option (List (List ℕ × List ℕ))) (h : History) (cause : Event) (w : Write) → Asks files h cause (Ok w) → KeepsRules h cause w
ruled files h (event.Apply body) w asks =
    let is = applied_is h body w asks in
    let object = applied body is.new is.key (slot h is.key).object (position h) in
    subst (λ (x : Write). KeepsRules h (event.Apply body) x) is.write (applied_rules h body body is.key object.status object.owner is.free)
ruled files h (event.Delete group kind namespace name) w asks =
    let key : Key = record { group = group; kind = kind; namespace = namespace; name = name } in
    let is = deleted_is h key w asks in
    subst (λ (x : Write). KeepsRules h (event.Delete group kind namespace name) x) is.write (removed_rules h group kind namespace name key is.resolution is.claims is.lease)
ruled files h (event.Approve namespace name) w asks =
    let is = approved_is h namespace name w asks in
    let a = is.approval in
    subst (λ (x : Write). KeepsRules h (event.Approve namespace name) x) (ap (λ (o : Option Object). write_at h (plan_key namespace name) o) a.made ∙ is.write)
    (approval_rules h namespace name a.object.body (status.Plan (record a.plan { approved = true })) a.object.owner)
ruled files h (event.Catalog namespace name path priority) w asks =
    let is = catalog_is files h namespace name path priority w asks in
    let valid = writes_valid files h (event.Catalog namespace name path priority) w asks (new_catalog is.text is.priority (position h)) (record { priority = is.priority }) (ap (λ (x : Write). x.object) (sym is.write)) refl in
    subst (λ (x : Write). KeepsRules h (event.Catalog namespace name path priority) x) is.write
    (catalog_rules h namespace name path priority is.text is.priority valid)
ruled files h (event.Ready namespace name state) w asks =
    let is = readied_is h namespace name state w asks in
    subst (λ (x : Write). KeepsRules h (event.Ready namespace name state) x) is.1 (ready_rules h namespace name is.0.body state (status.Deployment state) is.0.owner)
ruled files h (event.Retry namespace budget) w asks =
    let is = retried_is h namespace budget w asks in
    let r = is.revival in
    subst (λ (x : Write). KeepsRules h (event.Retry namespace budget) x) (ap (λ (o : Object). write_at h (resolution_key namespace) (Some o)) r.made ∙ is.write)
    (retry_rules h namespace budget r.body (status.Resolution r.decision) r.owner)
ruled files h (event.Worker role namespace) w asks = absurd asks
ruled files h (event.Look worker) w asks = absurd asks
ruled files h (event.Act worker) w asks = absurd asks
ruled files h (event.Settle namespace turns) w asks = absurd asks
ruled files h event.Restart w asks = absurd asks
ruled files h (event.Release namespace) w asks =
    let is = released_is h namespace w asks in
    let r = is.releasing in
    subst (λ (x : Write). KeepsRules h (event.Release namespace) x) (ap (λ (o : Option Object). write_at h claims_key o) r.made ∙ is.write)
    (release_rules h namespace r.object.body r.claims r.object.owner)
ruled files h (event.Lease worker now keep) w asks = absurd asks
