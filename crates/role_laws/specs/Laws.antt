-- What is so of all histories that are kept.
use Rattle.std.specs.Prelude.{◌≡◌, Bool, List, ℕ, Option, Some}
use Rattle.cluster_objects.specs.Kinds.{csv_at, resolution_at}
use Rattle.cluster_objects.specs.declared.keys.Key.{Key}
use Rattle.cluster_objects.specs.declared.objects.Object.{Object}
use Rattle.cluster_objects.specs.declared.objects.Write.{Write}
use Rattle.cluster_objects.specs.declared.objects.Writer.{Writer}
use Rattle.cluster_objects.specs.declared.objects.Writer.TheVariants as writer
use Rattle.cluster_objects.specs.declared.resolutions.ResolutionStatus.{ResolutionStatus}
use Rattle.cluster_objects.specs.declared.statuses.CsvPhase.TheVariants as phase
use Rattle.cluster_objects.specs.declared.statuses.CsvStatus.{CsvStatus}
use Rattle.cluster_history.specs.History.{History, After, IsInOrder, base_of, first_writes}
use Rattle.cluster_history.specs.Views.{view}
use Rattle.lease_fence.specs.Leases.{lease_of}
use Rattle.lease_fence.specs.Order.{LeaseLater}
use Rattle.lawful_events.specs.Runs.{Accepts}
use Rattle.operator_groups.specs.Acts.{acts, acts_in}
use Rattle.operator_groups.specs.Claiming.{AreDisjoint}
use Rattle.lawful_roles.specs.Roles.{IsKept}
use Rattle.role_laws.specs.Claims.{HoldsClaims, claims_in}
use Rattle.role_laws.specs.Csvs.{CsvGoes, phase_at}
use Rattle.role_laws.specs.Plans.{PlanGoes, plan_phase_at}
use Rattle.role_laws.specs.Resolutions.{IsDecided}
use Rattle.role_laws.specs.Subscriptions.{SubscriptionGoes, state_at}

-- A beginning of a kept history is kept.
abbrev pub BeginningsAreKept : Type 0
BeginningsAreKept = (is_valid : List ℕ → Bool) (h : History) (a : ℕ) → IsKept is_valid h → IsKept is_valid (first_writes a h)

-- The slots of each view of a kept history are in the order of their keys.
abbrev pub ViewsAreInOrder : Type 0
ViewsAreInOrder =
    (is_valid : List ℕ → Bool) (h : History) (namespace : List ℕ) (a : ℕ) → IsKept is_valid h → IsInOrder (view h namespace a).slots

-- So they are in any history, where those of its base are.
abbrev pub ViewsFollowTheirBase : Type 0
ViewsFollowTheirBase =
    (h : History) (namespace : List ℕ) (a : ℕ) → IsInOrder (base_of h).slots → IsInOrder (view h namespace a).slots

-- Each write of a kept history leaves the phase of the CSV at each key, or takes an edge of it.
abbrev pub CsvsGoByEdges : Type 0
CsvsGoByEdges =
    (is_valid : List ℕ → Bool) (h : History) (w : Write) (key : Key) → Accepts is_valid → IsKept is_valid (After w h)
    → CsvGoes h w key (phase_at h key) (phase_at (After w h) key)

-- Each resolution that the resolver writes is decided in the view that it saw.
abbrev pub ResolversDecide : Type 0
ResolversDecide =
    (is_valid : List ℕ → Bool) (h : History) (w : Write) (object : Object) (new : ResolutionStatus) → IsKept is_valid (After w h)
    → w.by ≡ writer.Resolver → w.object ≡ Some object → resolution_at w.key w.object ≡ Some new → IsDecided h w.key object.seen new

-- The claims of a kept history are disjoint.
abbrev pub ClaimsStayDisjoint : Type 0
ClaimsStayDisjoint = (is_valid : List ℕ → Bool) (h : History) → IsKept is_valid h → AreDisjoint (claims_in h)

-- Each write of a kept history leaves the state of the Subscription at each key, or takes an edge of it.
abbrev pub SubscriptionsGoByEdges : Type 0
SubscriptionsGoByEdges =
    (is_valid : List ℕ → Bool) (h : History) (w : Write) (key : Key) → Accepts is_valid → IsKept is_valid (After w h)
    → SubscriptionGoes h w key (state_at h key) (state_at (After w h) key)

-- Each write of a kept history leaves the phase of the plan at each key, or takes an edge of it.
abbrev pub PlansGoByEdges : Type 0
PlansGoByEdges =
    (is_valid : List ℕ → Bool) (h : History) (w : Write) (key : Key) → Accepts is_valid → IsKept is_valid (After w h)
    → PlanGoes h w key (plan_phase_at h key) (plan_phase_at (After w h) key)

-- A CSV that is put into InstallReady, in a namespace whose group has these targets, holds its claims in the view that was seen.
abbrev pub InstalledCsvsHoldClaims : Type 0
InstalledCsvsHoldClaims =
    (is_valid : List ℕ → Bool) (h : History) (w : Write) (object : Object) (new : CsvStatus) (targets : Option (List (List ℕ)))
    → IsKept is_valid (After w h) → w.by ≡ writer.Phases → w.object ≡ Some object → csv_at w.key w.object ≡ Some new
    → new.phase ≡ phase.InstallReady → acts (view h w.key.namespace object.seen) ≡ acts_in targets
    → HoldsClaims (view h w.key.namespace object.seen) targets new

-- By each write of a kept history each lease stays, or the next one takes its place.
abbrev pub GrantsGoInOrder : Type 0
GrantsGoInOrder =
    (is_valid : List ℕ → Bool) (h : History) (w : Write) (namespace : List ℕ) (role : Writer) → Accepts is_valid
    → IsKept is_valid (After w h) → LeaseLater (lease_of h namespace role) (lease_of (After w h) namespace role)
