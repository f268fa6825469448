-- What becomes of the object at a key by what a user wishes of it. The old object is what stands at the key, if anything does, and `seen` is the length of the history.
use Rattle.std.specs.Prelude.{Bool, true, false, ◌&&◌, not, if◌then◌else◌, ℕ, ℤ, List, [], codes, Option, Some, None, Result, Ok}
use Rattle.std.specs.List.{filter, list_any}
use Rattle.std.specs.Option.{unwrap_or}
use Rattle.cluster_objects.specs.Keys.{same_text}
use Rattle.cluster_objects.specs.Kinds.{claims_at, csv_at, deployment_at, plan_at, resolution_at, subscription_at, is_claims_key, is_lease_key, is_resolution_key}
use Rattle.cluster_objects.specs.declared.groups.Claim.{Claim}
use Rattle.cluster_objects.specs.declared.groups.ClaimsStatus.{ClaimsStatus}
use Rattle.cluster_objects.specs.declared.keys.Key.{Key}
use Rattle.cluster_objects.specs.declared.objects.Object.{Object}
use Rattle.cluster_objects.specs.declared.objects.Status.{Status}
use Rattle.cluster_objects.specs.declared.objects.Status.TheVariants as status
use Rattle.cluster_objects.specs.declared.plans.PlanPhase.{PlanPhase}
use Rattle.cluster_objects.specs.declared.plans.PlanPhase.TheVariants as phase
use Rattle.cluster_objects.specs.declared.plans.PlanStatus.{PlanStatus}
use Rattle.cluster_objects.specs.declared.resolutions.Outcome.TheVariants as outcome
use Rattle.cluster_objects.specs.declared.resolutions.ResolutionStatus.{ResolutionStatus}
use Rattle.cluster_objects.specs.declared.statuses.CsvStatus.{CsvStatus}
use Rattle.cluster_objects.specs.declared.statuses.Readiness.{Readiness}
use Rattle.cluster_objects.specs.declared.statuses.SubscriptionStatus.{SubscriptionStatus}
use Rattle.user_events.specs.Reasons.{refused}
use Rattle.user_events.specs.declared.refusals.Refusal.{Refusal}
use Rattle.user_events.specs.declared.wishes.Wish.{Wish}
use Rattle.user_events.specs.declared.wishes.Wish.TheVariants as wishes

-- ---- the object that a user writes: it has no stamp, and the history's length

abbrev pub written : List ℕ → Status → Option (List ℕ) → ℕ → Object
written body status owner seen = record { body = body; status = status; owner = owner; stamp = None; seen = seen }

-- what is there, with another status
abbrev pub with_status : Object → Status → ℕ → Object
with_status object status seen = written object.body status object.owner seen

-- ---- apply: a body over what is there

-- The owner of what is there stays. Something new has none.
abbrev pub kept_owner : Option Object → Option (List ℕ)
kept_owner None = None
kept_owner (Some object) = object.owner

-- A CSV that is there keeps its package, its version, what it replaces, and its phase.
abbrev pub kept_csv : Option CsvStatus → CsvStatus → CsvStatus
kept_csv None new = new
kept_csv (Some old) new = record new { «package» = old.«package»; version = old.version; replaces = old.replaces; phase = old.phase }

-- A Subscription that is there keeps its state.
abbrev pub kept_subscription : Option SubscriptionStatus → SubscriptionStatus → SubscriptionStatus
kept_subscription None new = new
kept_subscription (Some old) new = record new { state = old.state }

-- A Deployment that is there keeps its readiness. All else of a status is the new body's: of a Strategy and of a Group it is the whole.
abbrev pub kept_status : Key → Option Object → Status → Status
kept_status key old status.Plain = status.Plain
kept_status key old (status.Catalog new) = status.Catalog new
kept_status key old (status.Subscription new) = status.Subscription (kept_subscription (subscription_at key old) new)
kept_status key old (status.Csv new) = status.Csv (kept_csv (csv_at key old) new)
kept_status key old (status.Deployment new) = status.Deployment (unwrap_or (deployment_at key old) new)
kept_status key old (status.Plan new) = status.Plan new
kept_status key old (status.Resolution new) = status.Resolution new
kept_status key old (status.Strategy new) = status.Strategy new
kept_status key old (status.Group new) = status.Group new
kept_status key old (status.Claims new) = status.Claims new
kept_status key old (status.Lease new) = status.Lease new

abbrev pub applied : List ℕ → Status → Key → Option Object → ℕ → Object
applied body status key old seen = written body (kept_status key old status) (kept_owner old) seen

-- ---- delete: whatever is there, but no Resolution, no claims and no lease

abbrev pub removed : Option Object → Result (Option Object) Refusal
removed None = refused (codes "absent")
removed (Some object) = Ok None

abbrev pub deleted : Key → Option Object → Result (Option Object) Refusal
deleted key old =
    if is_resolution_key key then refused (codes "forbidden Resolution")
    else if is_claims_key key then refused (codes "forbidden Claims")
    else if is_lease_key key then refused (codes "forbidden Lease")
    else removed old

-- ---- approve: the plan that is there, if it waits for an approval

abbrev pub requires_approval : PlanPhase → Bool
requires_approval p = elim p [ phase.RequiresApproval ↦ true | _ ↦ false ]

abbrev pub is_waiting : PlanStatus → Bool
is_waiting plan = requires_approval plan.phase && not plan.approved

abbrev pub approved_plan : Object → ℕ → Option PlanStatus → Result (Option Object) Refusal
approved_plan object seen None = refused (codes "absent")
approved_plan object seen (Some plan) =
    if is_waiting plan
    then Ok (Some (with_status object (status.Plan (record plan { approved = true })) seen))
    else refused (codes "not-waiting")

abbrev pub approved : Key → Option Object → ℕ → Result (Option Object) Refusal
approved key None seen = refused (codes "absent")
approved key (Some object) seen = approved_plan object seen (plan_at key (Some object))

-- ---- ready: the Deployment that is there

abbrev pub made_ready : Readiness → Object → ℕ → Option Readiness → Result (Option Object) Refusal
made_ready state object seen None = refused (codes "absent")
made_ready state object seen (Some old) = Ok (Some (with_status object (status.Deployment state) seen))

abbrev pub readied : Readiness → Key → Option Object → ℕ → Result (Option Object) Refusal
readied state key None seen = refused (codes "absent")
readied state key (Some object) seen = made_ready state object seen (deployment_at key (Some object))

-- ---- retry: the Resolution that is there, or a first one

abbrev pub default_budget : ℕ
default_budget = 10000

-- one that is to be decided, of nothing as yet
abbrev pub first_resolution : Option ℕ → ResolutionStatus
first_resolution budget = record {
  number = 0;
  budget = unwrap_or budget default_budget;
  again = true;
  basis = record { subscriptions = []; tips = []; catalogs = [] };
  outcome = outcome.Nothing;
  certificate = [];
}

abbrev pub new_resolution : Option ℕ → ℕ → Object
new_resolution budget seen = written [] (status.Resolution (first_resolution budget)) None seen

-- one that is there keeps its budget where none is given, and all else
abbrev pub tried_again : Option ℕ → Object → ℕ → Option ResolutionStatus → Object
tried_again budget object seen None = new_resolution budget seen
tried_again budget object seen (Some old) =
    with_status object (status.Resolution (record old { again = true; budget = unwrap_or budget old.budget })) seen

abbrev pub retried : Option ℕ → Key → Option Object → ℕ → Object
retried budget key None seen = new_resolution budget seen
retried budget key (Some object) seen = tried_again budget object seen (resolution_at key (Some object))

-- ---- catalog: a new CatalogSource, whatever is there

abbrev pub new_catalog : List ℕ → ℤ → ℕ → Object
new_catalog body priority seen = written body (status.Catalog (record { priority = priority })) None seen

-- ---- release: the claims that are there, without those of a namespace

abbrev pub is_claim_of : List ℕ → Claim → Bool
is_claim_of namespace claim = same_text claim.namespace namespace

-- those of the other namespaces, in their order
abbrev pub without_claims_of : List ℕ → ClaimsStatus → ClaimsStatus
without_claims_of namespace claims = record { entries = filter (λ claim. not (is_claim_of namespace claim)) claims.entries }

-- What is no object of claims has none of this namespace.
abbrev pub released_claims : List ℕ → Object → ℕ → Option ClaimsStatus → Result (Option Object) Refusal
released_claims namespace object seen None = refused (codes "absent")
released_claims namespace object seen (Some claims) =
    if list_any (is_claim_of namespace) claims.entries
    then Ok (Some (with_status object (status.Claims (without_claims_of namespace claims)) seen))
    else refused (codes "absent")

abbrev pub released : List ℕ → Key → Option Object → ℕ → Result (Option Object) Refusal
released namespace key None seen = refused (codes "absent")
released namespace key (Some object) seen = released_claims namespace object seen (claims_at key (Some object))

-- ---- each of them: the object that is to stand at the key, and None where none is to

abbrev pub wished : Wish → Key → Option Object → ℕ → Result (Option Object) Refusal
wished (wishes.Apply body status) key old seen = Ok (Some (applied body status key old seen))
wished wishes.Delete key old seen = deleted key old
wished wishes.Approve key old seen = approved key old seen
wished (wishes.Ready state) key old seen = readied state key old seen
wished (wishes.Retry budget) key old seen = Ok (Some (retried budget key old seen))
wished (wishes.Release namespace) key old seen = released namespace key old seen
wished (wishes.Catalog body priority) key old seen = Ok (Some (new_catalog body priority seen))
