-- The write of each event, where it asks for one.
use Rattle.std.proofs.Common.{◌≡◌, Bool, true, false, cond, List, [], ℕ, Option, Some, None, Result, Ok, Err, refl, sym, ap, ◌∙◌, subst, codes}
use Rattle.std.specs.Prelude.{ℤ, pos}
use Rattle.std.specs.List.{list_any}
use Rattle.std.specs.Option.{unwrap_or}
use Rattle.cluster_objects.specs.Kinds.{as_plan, is_claims_key, is_lease_key, is_plan_key, is_resolution_key, claims_at, plan_at, deployment_at, resolution_at}
use Rattle.cluster_objects.specs.declared.groups.ClaimsStatus.{ClaimsStatus}
use Rattle.cluster_objects.specs.declared.keys.Key.{Key}
use Rattle.cluster_objects.specs.declared.objects.Object.{Object}
use Rattle.cluster_objects.specs.declared.objects.Status.{Status}
use Rattle.cluster_objects.specs.declared.objects.Status.TheVariants as status
use Rattle.cluster_objects.specs.declared.objects.Write.{Write}
use Rattle.cluster_objects.specs.declared.plans.PlanStatus.{PlanStatus}
use Rattle.cluster_objects.specs.declared.resolutions.ResolutionStatus.{ResolutionStatus}
use Rattle.cluster_objects.specs.declared.statuses.Readiness.{Readiness}
use Rattle.cluster_history.specs.History.{History, position, slot}
use Rattle.object_bodies.specs.Bodies.{user_object}
use Rattle.object_bodies.specs.Heads.{is_forbidden}
use Rattle.object_bodies.specs.Laws.{IsNewAt}
use Rattle.object_bodies.specs.declared.faults.ObjectFault.{ObjectFault}
use Rattle.object_bodies.proofs.Whole.{objects_are_new}
use Rattle.user_events.specs.Asked.{user_write, asked_at, apply_wish, apply, delete, approve, ready, release, retry}
use Rattle.user_events.specs.Asked as user
use Rattle.cluster_objects.specs.Places.{catalog_key, claims_key, plan_key, deployment_key, resolution_key}
use Rattle.user_events.specs.Reasons.{refused}
use Rattle.user_events.specs.Wishes.{with_status, applied, removed, deleted, is_waiting, approved_plan, approved, made_ready, readied, is_claim_of, released, released_claims, without_claims_of, first_resolution, tried_again, retried, written, new_catalog}
use Rattle.user_events.specs.declared.refusals.Refusal.{Refusal}
use Rattle.user_events.specs.declared.wishes.Wish.{Wish}
use Rattle.user_events.specs.declared.wishes.Wish.TheVariants as wishes
use Rattle.user_events.proofs.Chains.{ok_is, then_ok}
use Rattle.fbc_read.specs.declared.bodies.BodyFault.{BodyFault}
use Rattle.folder_events.specs.Catalogs.{AsksCatalog, catalog_after, valid_text}
use Rattle.lawful_events.specs.Keeps.{IsSameDecision}
use Rattle.lawful_events.proofs.Chains.{counts, none_is_some, some_is}

-- a user's write at a key
abbrev pub write_at : History → Key → Option Object → Write
write_at h key object = user_write (slot h key) key object

-- ---- apply

pub record IsApplied (h : History) (body : List ℕ) (w : Write) : Type 0 where
  pub key : Key
  pub new : Status
  pub free : is_forbidden key ≡ false
  pub fresh : IsNewAt key new
  pub write : write_at h key (Some (applied body new key (slot h key).object (position h))) ≡ w

wish_of : (body : List ℕ) (read : Result (Key × Status) ObjectFault) (found : Key × Wish) → apply_wish body read ≡ Ok found
    → (made : Key × Status) × (read ≡ Ok made) × (◌≡◌ {A = Key × Wish} (made.0, wishes.Apply body made.1) found)
wish_of body (Ok made) found e = (made, refl, ok_is _ _ e)
wish_of body (Err fault) found e = absurd cc

pub applied_is : (h : History) (body : List ℕ) (w : Write) → apply h body ≡ Ok w → IsApplied h body w
applied_is h body w e =
    let found = then_ok (apply_wish body (user_object body)) (λ found. asked_at h found.0 found.1) w e in
    let made = wish_of body (user_object body) found.0 found.1 in
    let new = objects_are_new body made.0 made.1 in
    record {
      key = made.0.0;
      new = made.0.1;
      free = new.0;
      fresh = new.1;
      write = ok_is _ _ (subst (λ (f : Key × Wish). asked_at h f.0 f.1 ≡ Ok w) (sym made.2) found.2);
    }

-- ---- delete

removed_is : (a b c : Bool) (old new : Option Object)
    → cond {A = Result (Option Object) Refusal} a (refused (codes "forbidden Resolution")) (cond b (refused (codes "forbidden Claims")) (cond c (refused (codes "forbidden Lease")) (removed old))) ≡ Ok new
    → (a ≡ false) × (b ≡ false) × (c ≡ false) × (new ≡ None)
removed_is true b c old new e = absurd cc
removed_is false true c old new e = absurd cc
removed_is false false true old new e = absurd cc
removed_is false false false None new e = absurd cc
removed_is false false false (Some object) new e = (refl, refl, refl, sym (ok_is _ _ e))

pub record IsDeleted (h : History) (key : Key) (w : Write) : Type 0 where
  pub resolution : is_resolution_key key ≡ false
  pub claims : is_claims_key key ≡ false
  pub lease : is_lease_key key ≡ false
  pub write : write_at h key None ≡ w

pub deleted_is : (h : History) (key : Key) (w : Write) → delete h key ≡ Ok w → IsDeleted h key w
deleted_is h key w e =
    let found = then_ok (deleted key (slot h key).object) (λ object. Ok (write_at h key object)) w e in
    let gone = removed_is (is_resolution_key key) (is_claims_key key) (is_lease_key key) (slot h key).object found.0 found.1 in
    record {
      resolution = gone.0;
      claims = gone.1;
      lease = gone.2;
      write = ok_is _ _ (subst (λ (o : Option Object). ◌≡◌ {A = Result Write Refusal} (Ok (write_at h key o)) (Ok w)) gone.3 found.2);
    }

-- ---- approve

plan_status : (object : Object) (found : Status) (plan : PlanStatus) → as_plan (Some (record object { status = found })) ≡ Some plan → found ≡ status.Plan plan
plan_status object status.Plain plan e = absurd (none_is_some plan e)
plan_status object (status.Catalog x) plan e = absurd (none_is_some plan e)
plan_status object (status.Subscription x) plan e = absurd (none_is_some plan e)
plan_status object (status.Csv x) plan e = absurd (none_is_some plan e)
plan_status object (status.Deployment x) plan e = absurd (none_is_some plan e)
plan_status object (status.Plan x) plan e = ap status.Plan (some_is x plan e)
plan_status object (status.Resolution x) plan e = absurd (none_is_some plan e)
plan_status object (status.Strategy x) plan e = absurd (none_is_some plan e)
plan_status object (status.Group x) plan e = absurd (none_is_some plan e)
plan_status object (status.Claims x) plan e = absurd (none_is_some plan e)
plan_status object (status.Lease x) plan e = absurd (none_is_some plan e)

pub record Approval (old : Option Object) (seen : ℕ) (new : Option Object) : Type 0 where
  pub object : Object
  pub plan : PlanStatus
  pub there : old ≡ Some object
  pub stands : object.status ≡ status.Plan plan
  pub waits : is_waiting plan ≡ true
  pub made : Some (with_status object (status.Plan (record plan { approved = true })) seen) ≡ new

approval_of : (key : Key) (old : Option Object) (seen : ℕ) (new : Option Object) → approved key old seen ≡ Ok new → Approval old seen new
approval_of key None seen new e = absurd cc
approval_of key (Some object) seen new e = by_plan (plan_at key (Some object)) refl e
  where
    by_test : (plan : PlanStatus) (b : Bool) → object.status ≡ status.Plan plan → is_waiting plan ≡ b
        → cond {A = Result (Option Object) Refusal} b (Ok (Some (with_status object (status.Plan (record plan { approved = true })) seen))) (refused (codes "not-waiting")) ≡ Ok new → Approval (Some object) seen new
    by_test plan true stands waits e = record { object = object; plan = plan; there = refl; stands = stands; waits = waits; made = ok_is _ _ e }
    by_test plan false stands waits e = absurd cc

    by_plan : (found : Option PlanStatus) → plan_at key (Some object) ≡ found → approved_plan object seen found ≡ Ok new → Approval (Some object) seen new
    by_plan None is e = absurd cc
    by_plan (Some plan) is e = by_test plan (is_waiting plan) (plan_status object object.status plan (counts (is_plan_key key) (as_plan (Some object)) plan is)) refl e

pub record IsApproved (h : History) (key : Key) (w : Write) : Type 0 where
  pub new : Option Object
  pub approval : Approval (slot h key).object (position h) new
  pub write : write_at h key new ≡ w

pub approved_is : (h : History) (namespace name : List ℕ) (w : Write) → approve h namespace name ≡ Ok w → IsApproved h (plan_key namespace name) w
approved_is h namespace name w e =
    let key = plan_key namespace name in
    let found = then_ok (approved key (slot h key).object (position h)) (λ object. Ok (write_at h key object)) w e in
    record { new = found.0; approval = approval_of key (slot h key).object (position h) found.0 found.1; write = ok_is _ _ found.2 }

-- ---- ready

ready_by : (state : Readiness) (object : Object) (seen : ℕ) (found : Option Readiness) (new : Option Object) → made_ready state object seen found ≡ Ok new → Some (with_status object (status.Deployment state) seen) ≡ new
ready_by state object seen None new e = absurd cc
ready_by state object seen (Some old) new e = ok_is _ _ e

ready_of : (key : Key) (old : Option Object) (state : Readiness) (seen : ℕ) (new : Option Object) → readied state key old seen ≡ Ok new → (object : Object) × (Some (with_status object (status.Deployment state) seen) ≡ new)
ready_of key None state seen new e = absurd cc
ready_of key (Some object) state seen new e = (object, ready_by state object seen (deployment_at key (Some object)) new e)

pub readied_is : (h : History) (namespace name : List ℕ) (state : Readiness) (w : Write) → ready h namespace name state ≡ Ok w
    → (object : Object) × (write_at h (deployment_key namespace name) (Some (with_status object (status.Deployment state) (position h))) ≡ w)
readied_is h namespace name state w e =
    let key = deployment_key namespace name in
    let found = then_ok (readied state key (slot h key).object (position h)) (λ object. Ok (write_at h key object)) w e in
    let made = ready_of key (slot h key).object state (position h) found.0 found.1 in
    (made.0, ap (λ (o : Option Object). write_at h key o) made.1 ∙ ok_is _ _ found.2)

-- ---- release

-- claims that were there, with fewer entries
pub record Releasing (old : Option Object) (seen : ℕ) (new : Option Object) : Type 0 where
  pub object : Object
  pub claims : ClaimsStatus
  pub there : old ≡ Some object
  pub made : Some (with_status object (status.Claims claims) seen) ≡ new

released_by : (namespace : List ℕ) (object : Object) (seen : ℕ) (found : Option ClaimsStatus) (new : Option Object) → released_claims namespace object seen found ≡ Ok new → Releasing (Some object) seen new
released_by namespace object seen None new e = absurd cc
released_by namespace object seen (Some claims) new e = by (list_any (is_claim_of namespace) claims.entries) e
  where
    by : (b : Bool) → cond {A = Result (Option Object) Refusal} b (Ok (Some (with_status object (status.Claims (without_claims_of namespace claims)) seen))) (refused (codes "absent")) ≡ Ok new → Releasing (Some object) seen new
    by true e = record { object = object; claims = without_claims_of namespace claims; there = refl; made = ok_is _ _ e }
    by false e = absurd cc

released_of : (namespace : List ℕ) (key : Key) (old : Option Object) (seen : ℕ) (new : Option Object) → released namespace key old seen ≡ Ok new → Releasing old seen new
released_of namespace key None seen new e = absurd cc
released_of namespace key (Some object) seen new e = released_by namespace object seen (claims_at key (Some object)) new e

pub record IsReleased (h : History) (w : Write) : Type 0 where
  pub new : Option Object
  pub releasing : Releasing (slot h claims_key).object (position h) new
  pub write : write_at h claims_key new ≡ w

pub released_is : (h : History) (namespace : List ℕ) (w : Write) → release h namespace ≡ Ok w → IsReleased h w
released_is h namespace w e =
    let found = then_ok (released namespace claims_key (slot h claims_key).object (position h)) (λ object. Ok (write_at h claims_key object)) w e in
    record { new = found.0; releasing = released_of namespace claims_key (slot h claims_key).object (position h) found.0 found.1; write = ok_is _ _ found.2 }

-- ---- retry

pub record Revival (key : Key) (old : Option Object) (seen : ℕ) (new : Object) : Type 0 where
  pub body : List ℕ
  pub owner : Option (List ℕ)
  pub decision : ResolutionStatus
  pub made : written body (status.Resolution decision) owner seen ≡ new
  pub same : (was : ResolutionStatus) → resolution_at key old ≡ Some was → IsSameDecision was decision

same_again : (budget : Option ℕ) (was old : ResolutionStatus) → old ≡ was → IsSameDecision was (record old { again = true; budget = unwrap_or budget old.budget })
same_again budget was old e = record {
  number = ap (λ (r : ResolutionStatus). r.number) e;
  basis = ap (λ (r : ResolutionStatus). r.basis) e;
  outcome = ap (λ (r : ResolutionStatus). r.outcome) e;
  certificate = ap (λ (r : ResolutionStatus). r.certificate) e;
}

revival_by : (budget : Option ℕ) (key : Key) (object : Object) (seen : ℕ) (found : Option ResolutionStatus) → resolution_at key (Some object) ≡ found → Revival key (Some object) seen (tried_again budget object seen found)
revival_by budget key object seen None is = record {
  body = [];
  owner = None;
  decision = first_resolution budget;
  made = refl;
  same = λ was e. absurd (none_is_some was (sym is ∙ e));
}
revival_by budget key object seen (Some old) is = record {
  body = object.body;
  owner = object.owner;
  decision = record old { again = true; budget = unwrap_or budget old.budget };
  made = refl;
  same = λ was e. same_again budget was old (some_is old was (sym is ∙ e));
}

revival_of : (budget : Option ℕ) (key : Key) (old : Option Object) (seen : ℕ) → Revival key old seen (retried budget key old seen)
revival_of budget key None seen = record {
  body = [];
  owner = None;
  decision = first_resolution budget;
  made = refl;
  same = λ was e. absurd (none_is_some was (counts (is_resolution_key key) None was e));
}
revival_of budget key (Some object) seen = revival_by budget key object seen (resolution_at key (Some object)) refl

pub record IsRetried (h : History) (key : Key) (w : Write) : Type 0 where
  pub new : Object
  pub revival : Revival key (slot h key).object (position h) new
  pub write : write_at h key (Some new) ≡ w

pub retried_is : (h : History) (namespace : List ℕ) (budget : Option ℕ) (w : Write) → retry h namespace budget ≡ Ok w → IsRetried h (resolution_key namespace) w
retried_is h namespace budget w e =
    let key = resolution_key namespace in
    record { new = retried budget key (slot h key).object (position h); revival = revival_of budget key (slot h key).object (position h); write = ok_is _ _ e }

-- ---- catalog

-- a catalog that is written: its text is valid
pub record IsCatalog (h : History) (namespace name : List ℕ) (w : Write) : Type 0 where
  pub text : List ℕ
  pub priority : ℤ
  pub write : write_at h (catalog_key namespace name) (Some (new_catalog text priority (position h))) ≡ w

by_body : (h : History) (namespace name : List ℕ) (priority : Option ℤ) (w : Write) (body : Result (List ℕ) BodyFault) → catalog_after h namespace name priority body ≡ Ok w → IsCatalog h namespace name w
by_body h namespace name priority w (Ok text) e =
    let p = unwrap_or priority (pos 0) in
    let found = then_ok (valid_text text) (λ text. user.catalog h namespace name text p) w e in
    record { text = found.0; priority = p; write = ok_is _ _ found.2 }
by_body h namespace name priority w (Err fault) e = absurd cc

pub catalog_is : (files : Option (List (List ℕ × List ℕ))) (h : History) (namespace name path : List ℕ) (priority : Option ℤ) (w : Write) → AsksCatalog files h namespace name path priority (Ok w) → IsCatalog h namespace name w
catalog_is files h namespace name path priority w (body, holds, e) = by_body h namespace name priority w body e
