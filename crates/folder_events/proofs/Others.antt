-- No other event writes an object with a catalog's status.
use Rattle.std.proofs.Common.{◌≡◌, Bool, true, false, cond, ℕ, List, Option, Some, None, Result, Ok, Err, refl, sym, ap, subst, ◌∙◌}
use Rattle.std.specs.List.{list_any}
use Rattle.std.specs.Prelude.{codes}
use Rattle.cluster_objects.specs.Kinds.{as_catalog, claims_at, deployment_at, plan_at, resolution_at, is_claims_key, is_lease_key, is_resolution_key}
use Rattle.cluster_objects.specs.Places.{claims_key}
use Rattle.cluster_objects.specs.declared.groups.ClaimsStatus.{ClaimsStatus}
use Rattle.cluster_objects.specs.declared.keys.Key.{Key}
use Rattle.cluster_objects.specs.declared.objects.Object.{Object}
use Rattle.cluster_objects.specs.declared.objects.Status.{Status}
use Rattle.cluster_objects.specs.declared.objects.Status.TheVariants as status
use Rattle.cluster_objects.specs.declared.objects.Write.{Write}
use Rattle.cluster_objects.specs.declared.plans.PlanStatus.{PlanStatus}
use Rattle.cluster_objects.specs.declared.resolutions.ResolutionStatus.{ResolutionStatus}
use Rattle.cluster_objects.specs.declared.statuses.Readiness.{Readiness}
use Rattle.cluster_history.specs.History.{History, position, slot}
use Rattle.object_bodies.specs.Bodies.{user_object}
use Rattle.object_bodies.specs.declared.faults.ObjectFault.{ObjectFault}
use Rattle.object_bodies.specs.Laws.{IsNewAt}
use Rattle.object_bodies.proofs.Reading.{read_then, same_ok}
use Rattle.object_bodies.proofs.Whole.{objects_are_new}
use Rattle.user_events.specs.Asked.{apply, apply_wish, asked_at, user_write}
use Rattle.user_events.specs.Reasons.{refused}
use Rattle.user_events.specs.Wishes.{applied, approved, approved_plan, deleted, is_claim_of, is_waiting, made_ready, readied, released, released_claims, removed, retried, tried_again, with_status, without_claims_of, wished}
use Rattle.user_events.specs.declared.refusals.Refusal.{Refusal}
use Rattle.user_events.specs.declared.wishes.Wish.{Wish}
use Rattle.user_events.specs.declared.wishes.Wish.TheVariants as wishes

-- what is written is what is wished
asked_none : (h : History) (key : Key) (wish : Wish) (w : Write) → ((o : Option Object) → wished wish key (slot h key).object (position h) ≡ Ok o → as_catalog o ≡ None)
    → asked_at h key wish ≡ Ok w → as_catalog w.object ≡ None
asked_none h key wish w none e =
    let t = read_then (wished wish key (slot h key).object (position h)) (λ object. Ok (user_write (slot h key) key object)) w e in
    ap (λ (w : Write). as_catalog w.object) (sym (same_ok _ _ t.2)) ∙ none t.0 t.1

applied_none : (body : List ℕ) (new : Status) (key : Key) (old : Option Object) (seen : ℕ) → IsNewAt key new → as_catalog (Some (applied body new key old seen)) ≡ None
applied_none body status.Plain key old seen fresh = refl
applied_none body (status.Catalog x) key old seen fresh = absurd fresh
applied_none body (status.Subscription x) key old seen fresh = refl
applied_none body (status.Csv x) key old seen fresh = refl
applied_none body (status.Deployment x) key old seen fresh = refl
applied_none body (status.Plan x) key old seen fresh = absurd fresh
applied_none body (status.Resolution x) key old seen fresh = absurd fresh
applied_none body (status.Strategy x) key old seen fresh = refl
applied_none body (status.Group x) key old seen fresh = refl
applied_none body (status.Claims x) key old seen fresh = absurd fresh
applied_none body (status.Lease x) key old seen fresh = absurd fresh

removed_none : (old o : Option Object) → removed old ≡ Ok o → as_catalog o ≡ None
removed_none None o e = absurd cc
removed_none (Some object) o e = ap as_catalog (sym (same_ok _ _ e))

deleted_none : (key : Key) (old o : Option Object) → deleted key old ≡ Ok o → as_catalog o ≡ None
deleted_none key old o e = by (is_resolution_key key) (is_claims_key key) (is_lease_key key) e
  where
    by : (a b c : Bool)
        → cond {A = Result (Option Object) Refusal} a (refused (codes "forbidden Resolution")) (cond b (refused (codes "forbidden Claims")) (cond c (refused (codes "forbidden Lease")) (removed old))) ≡ Ok o
        → as_catalog o ≡ None
    by true b c e = absurd cc
    by false true c e = absurd cc
    by false false true e = absurd cc
    by false false false e = removed_none old o e

plan_none : (object : Object) (seen : ℕ) (plan : Option PlanStatus) (o : Option Object) → approved_plan object seen plan ≡ Ok o → as_catalog o ≡ None
plan_none object seen None o e = absurd cc
plan_none object seen (Some plan) o e = by (is_waiting plan) e
  where
    by : (b : Bool) → cond {A = Result (Option Object) Refusal} b (Ok (Some (with_status object (status.Plan (record plan { approved = true })) seen))) (refused (codes "not-waiting")) ≡ Ok o → as_catalog o ≡ None
    by true e = ap as_catalog (sym (same_ok _ _ e))
    by false e = absurd cc

approved_none : (key : Key) (old : Option Object) (seen : ℕ) (o : Option Object) → approved key old seen ≡ Ok o → as_catalog o ≡ None
approved_none key None seen o e = absurd cc
approved_none key (Some object) seen o e = plan_none object seen (plan_at key (Some object)) o e

made_none : (state : Readiness) (object : Object) (seen : ℕ) (old : Option Readiness) (o : Option Object) → made_ready state object seen old ≡ Ok o → as_catalog o ≡ None
made_none state object seen None o e = absurd cc
made_none state object seen (Some old) o e = ap as_catalog (sym (same_ok _ _ e))

readied_none : (state : Readiness) (key : Key) (old : Option Object) (seen : ℕ) (o : Option Object) → readied state key old seen ≡ Ok o → as_catalog o ≡ None
readied_none state key None seen o e = absurd cc
readied_none state key (Some object) seen o e = made_none state object seen (deployment_at key (Some object)) o e

again_none : (budget : Option ℕ) (object : Object) (seen : ℕ) (old : Option ResolutionStatus) → as_catalog (Some (tried_again budget object seen old)) ≡ None
again_none budget object seen None = refl
again_none budget object seen (Some old) = refl

retried_none : (budget : Option ℕ) (key : Key) (old : Option Object) (seen : ℕ) → as_catalog (Some (retried budget key old seen)) ≡ None
retried_none budget key None seen = refl
retried_none budget key (Some object) seen = again_none budget object seen (resolution_at key (Some object))

claims_none : (namespace : List ℕ) (object : Object) (seen : ℕ) (claims : Option ClaimsStatus) (o : Option Object) → released_claims namespace object seen claims ≡ Ok o → as_catalog o ≡ None
claims_none namespace object seen None o e = absurd cc
claims_none namespace object seen (Some claims) o e = by (list_any (is_claim_of namespace) claims.entries) e
  where
    by : (b : Bool) → cond {A = Result (Option Object) Refusal} b (Ok (Some (with_status object (status.Claims (without_claims_of namespace claims)) seen))) (refused (codes "absent")) ≡ Ok o → as_catalog o ≡ None
    by true e = ap as_catalog (sym (same_ok _ _ e))
    by false e = absurd cc

released_none : (namespace : List ℕ) (key : Key) (old : Option Object) (seen : ℕ) (o : Option Object) → released namespace key old seen ≡ Ok o → as_catalog o ≡ None
released_none namespace key None seen o e = absurd cc
released_none namespace key (Some object) seen o e = claims_none namespace object seen (claims_at key (Some object)) o e

-- ---- the events

applied_by : (h : History) (key : Key) (body : List ℕ) (new : Status) (w : Write) → IsNewAt key new → asked_at h key (wishes.Apply body new) ≡ Ok w → as_catalog w.object ≡ None
applied_by h key body new w fresh e =
    asked_none h key (wishes.Apply body new) w (λ o is. ap as_catalog (sym (same_ok _ _ is)) ∙ applied_none body new key (slot h key).object (position h) fresh) e

pub by_apply : (h : History) (body : List ℕ) (w : Write) → apply h body ≡ Ok w → as_catalog w.object ≡ None
by_apply h body w e =
    let t = read_then (apply_wish body (user_object body)) (λ found. asked_at h found.0 found.1) w e in
    by_object (user_object body) refl t.0 t.1 t.2
  where
    by_object : (read : Result (Key × Status) ObjectFault) → user_object body ≡ read → (found : Key × Wish) → apply_wish body read ≡ Ok found → asked_at h found.0 found.1 ≡ Ok w → as_catalog w.object ≡ None
    by_object (Ok object) is found e asked =
        let fresh = (objects_are_new body object is).1 in
        applied_by h object.0 body object.1 w fresh (subst (λ (f : Key × Wish). asked_at h f.0 f.1 ≡ Ok w) (sym (same_ok _ _ e)) asked)
    by_object (Err fault) is found e asked = absurd cc

pub by_delete : (h : History) (key : Key) (w : Write) → asked_at h key wishes.Delete ≡ Ok w → as_catalog w.object ≡ None
by_delete h key w e = asked_none h key wishes.Delete w (deleted_none key (slot h key).object) e

pub by_approve : (h : History) (key : Key) (w : Write) → asked_at h key wishes.Approve ≡ Ok w → as_catalog w.object ≡ None
by_approve h key w e = asked_none h key wishes.Approve w (approved_none key (slot h key).object (position h)) e

pub by_ready : (h : History) (key : Key) (state : Readiness) (w : Write) → asked_at h key (wishes.Ready state) ≡ Ok w → as_catalog w.object ≡ None
by_ready h key state w e = asked_none h key (wishes.Ready state) w (readied_none state key (slot h key).object (position h)) e

pub by_retry : (h : History) (key : Key) (budget : Option ℕ) (w : Write) → asked_at h key (wishes.Retry budget) ≡ Ok w → as_catalog w.object ≡ None
by_retry h key budget w e =
    asked_none h key (wishes.Retry budget) w (λ o is. ap as_catalog (sym (same_ok _ _ is)) ∙ retried_none budget key (slot h key).object (position h)) e

pub by_release : (h : History) (namespace : List ℕ) (w : Write) → asked_at h claims_key (wishes.Release namespace) ≡ Ok w → as_catalog w.object ≡ None
by_release h namespace w e = asked_none h claims_key (wishes.Release namespace) w (released_none namespace claims_key (slot h claims_key).object (position h)) e
