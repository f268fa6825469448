-- Which histories are lawful by the roles of those who wrote them. What a user may write is handed in.
use Rattle.std.specs.Prelude.{◌≡◌, ◌≤◌, ℕ, Bool, true, false, List, [], Some, None, slice_get, if◌then◌else◌}
use Rattle.std.specs.List.{last_or}
use Rattle.std.specs.Option.{option_and_then, option_map_or}
use Rattle.cluster_objects.specs.Keys.{same_key}
use Rattle.cluster_objects.specs.Kinds.{as_claims, claims_at, is_lease_key, lease_at, plan_at}
use Rattle.cluster_objects.specs.Places.{claims_key}
use Rattle.cluster_objects.specs.declared.groups.ClaimsStatus.{ClaimsStatus}
use Rattle.cluster_objects.specs.declared.groups.LeaseStatus.{LeaseStatus}
use Rattle.cluster_objects.specs.declared.keys.Key.{Key}
use Rattle.cluster_objects.specs.declared.objects.Object.{Object}
use Rattle.cluster_objects.specs.declared.objects.Write.{Write}
use Rattle.cluster_objects.specs.declared.objects.Writer.TheVariants as writer
use Rattle.cluster_objects.specs.declared.plans.PlanStatus.{PlanStatus}
use Rattle.cluster_objects.specs.declared.plans.Step.{Step}
use Rattle.cluster_objects.specs.declared.plans.StepState.{StepState}
use Rattle.cluster_objects.specs.declared.plans.StepState.TheVariants.{Unknown, Aimed, Created, Present, Overtaken}
use Rattle.cluster_history.specs.History.{After, History, Start, base_of, position, slot, slot_in}
use Rattle.cluster_history.specs.Views.{view}
use Rattle.cluster_history.specs.declared.slots.Base.{Base}
use Rattle.lawful_history.specs.Sound.{IsSoundBase}
use Rattle.operator_groups.specs.Claiming.{AreDisjoint}
use Rattle.controller_rules.specs.Enabled.{IsEnabled, writer_of}
use Rattle.controller_rules.specs.declared.roles.Role.{Role}
use Rattle.controller_rules.specs.declared.roles.Role.TheVariants.{Phases}

-- ---- the base

-- The step's object may still be written.
abbrev pub is_open : StepState → Bool
is_open Unknown = true
is_open (Aimed version) = true
is_open Created = false
is_open Present = false
is_open Overtaken = false

-- A sound base, in which the claims are disjoint, each lease's term is at most the length, and no open step has the key of a lease.
pub record IsSoundByRoles (is_valid : List ℕ → Bool) (base : Base) : Type 0 where
  pub sound : IsSoundBase is_valid base
  pub claims : (claims : ClaimsStatus) → claims_at claims_key (slot_in base.slots claims_key).object ≡ Some claims
      → AreDisjoint claims.entries
  pub terms : (key : Key) (lease : LeaseStatus) → lease_at key (slot_in base.slots key).object ≡ Some lease
      → lease.term ≤ base.length
  pub spared : (key : Key) (plan : PlanStatus) (i : ℕ) (step : Step) → plan_at key (slot_in base.slots key).object ≡ Some plan
      → slice_get plan.steps i ≡ Some step → is_open step.state ≡ true → is_lease_key step.key ≡ false

-- ---- whose view a role's write was made in

-- the namespace of the last claim
abbrev pub last_claimant : Object → List ℕ
last_claimant object =
    option_map_or (λ claim. claim.namespace) (option_and_then (λ claims. last_or None claims.entries) (as_claims (Some object))) []

-- The stamp's namespace; without a stamp that of the last claim for the claims, and the key's for any other object.
abbrev pub place_of : Key → Object → List ℕ
place_of key object = elim object.stamp [
  | None ↦ (if same_key key claims_key then last_claimant object else key.namespace)
  | Some stamp ↦ stamp.namespace
]

-- ---- the cases

-- The role had this write in the view at `seen`, which is a length of this history.
pub record IsRolesPut (role : Role) (h : History) (w : Write) : Type 0 where
  pub by : w.by ≡ writer_of role
  pub object : Object
  pub puts : w.object ≡ Some object
  pub since : (base_of h).length ≤ object.seen
  pub until : object.seen ≤ position h
  pub enabled : IsEnabled role (view h (place_of w.key object) object.seen) w

-- The role phases had this removal in the view of the key's namespace at a length of this history, no lower than the expected version.
pub record IsRolesRemoval (h : History) (w : Write) : Type 0 where
  pub by : w.by ≡ writer.Phases
  pub removes : w.object ≡ None
  pub length : ℕ
  pub expected : w.expect ≤ length
  pub since : (base_of h).length ≤ length
  pub until : length ≤ position h
  pub enabled : IsEnabled Phases (view h w.key.namespace length) w

pub data IsAllowedByRole (IsUsers : History → Write → Type 0) (h : History) (w : Write) : Type 0 where
  ByUser : w.by ≡ writer.User → IsUsers h w → IsAllowedByRole IsUsers h w
  ByRole : (role : Role) → IsRolesPut role h w → IsAllowedByRole IsUsers h w
  ByRemoval : IsRolesRemoval h w → IsAllowedByRole IsUsers h w

-- The history begins at a sound base, and each write expects its key's version and is allowed to who wrote it.
abbrev pub IsLawfulByRoles : (History → Write → Type 0) → (List ℕ → Bool) → History → Type 0
IsLawfulByRoles IsUsers is_valid (Start base) = IsSoundByRoles is_valid base
IsLawfulByRoles IsUsers is_valid (After w h) =
    (w.expect ≡ (slot h w.key).version) × IsAllowedByRole IsUsers h w × IsLawfulByRoles IsUsers is_valid h
