-- The states of subscriptions.
use Rattle.std.specs.Prelude.{◌≡◌, ℕ, Bool, true, false, ◌&&◌, List, [], ◌∷◌, Option, Some, None, if◌then◌else◌}
use Rattle.std.specs.List.{filter_map, list_any}
use Rattle.std.specs.Option.{is_none, option_and_then, option_map, option_map_or}
use Rattle.cluster_objects.specs.Keys.{same_text}
use Rattle.cluster_objects.specs.Kinds.{plan_at, subscription_at}
use Rattle.cluster_objects.specs.declared.keys.Key.{Key}
use Rattle.cluster_objects.specs.declared.objects.Object.{Object}
use Rattle.cluster_objects.specs.declared.plans.PlanPhase.{PlanPhase}
use Rattle.cluster_objects.specs.declared.plans.PlanPhase.TheVariants as plan
use Rattle.cluster_objects.specs.declared.plans.PlanStatus.{PlanStatus}
use Rattle.cluster_objects.specs.declared.plans.Step.{Step}
use Rattle.cluster_objects.specs.declared.statuses.Made.TheVariants as made
use Rattle.cluster_objects.specs.declared.statuses.SubSpec.{SubSpec}
use Rattle.cluster_objects.specs.declared.statuses.SubState.{SubState}
use Rattle.cluster_objects.specs.declared.statuses.SubState.TheVariants as state
use Rattle.cluster_objects.specs.declared.statuses.SubscriptionStatus.{SubscriptionStatus}
use Rattle.cluster_history.specs.History.{slot_in}
use Rattle.cluster_history.specs.Views.{View}
use Rattle.cluster_history.specs.declared.slots.Slot.{Slot}
use Rattle.op_properties.specs.Offers.{is_of}
use Rattle.view_basis.specs.Tips.{installed, tips}
use Rattle.view_basis.specs.Visible.{visible_catalogs}
use Rattle.problem_build.specs.Asking.{upgrades_from}

-- ---- plans under way

abbrev pub is_under_way : PlanPhase → Bool
is_under_way plan.Nothing = false
is_under_way plan.Planning = true
is_under_way plan.RequiresApproval = true
is_under_way plan.Installing = true
is_under_way plan.Complete = false
is_under_way plan.Failed = false

-- The plan of a slot, if one of this namespace stands there.
abbrev pub plan_in : List ℕ → Key × Slot → Option PlanStatus
plan_in namespace entry = if same_text entry.0.namespace namespace then plan_at entry.0 entry.1.object else None

-- A plan of this namespace stands in the slot, and is under way.
abbrev pub has_plan_under_way : View → Key × Slot → Bool
has_plan_under_way view entry = option_map_or (λ found. is_under_way found.phase) (plan_in view.namespace entry) false

-- The step makes a CSV of this package.
abbrev pub makes_csv_of : List ℕ → Step → Bool
makes_csv_of «package» step = elim step.made [
  | made.Plain ↦ false
  | made.Subscription x ↦ false
  | made.Csv x ↦ is_of «package» x.«package»
  | made.Deployment x ↦ false
]

-- The plan is under way, and makes a CSV of this package.
abbrev pub brings : List ℕ → PlanStatus → Bool
brings «package» found = is_under_way found.phase && list_any (makes_csv_of «package») found.steps

-- A plan of the view's namespace brings this package.
abbrev pub is_pending : View → List ℕ → Bool
is_pending view «package» =
    list_any (λ entry. option_map_or (brings «package») (plan_in view.namespace entry) false) view.slots

-- ---- the state of a subscription

abbrev pub is_empty : List (List ℕ) → Bool
is_empty names = elim names [ [] ↦ true | name ∷ more ↦ false ]

-- The state of a subscription to this.
abbrev pub state_of : View → SubSpec → SubState
state_of view spec =
    if is_pending view spec.«package» then state.UpgradePending
    else if is_none (installed view spec.«package») then state.Nothing
    else if is_empty (upgrades_from (visible_catalogs view) (tips view) spec) then state.AtLatestKnown
    else state.UpgradeAvailable

abbrev pub same_state : SubState → SubState → Bool
same_state state.Nothing other = elim other [ state.Nothing ↦ true | state.UpgradeAvailable ↦ false | state.UpgradePending ↦ false | state.AtLatestKnown ↦ false ]
same_state state.UpgradeAvailable other = elim other [ state.Nothing ↦ false | state.UpgradeAvailable ↦ true | state.UpgradePending ↦ false | state.AtLatestKnown ↦ false ]
same_state state.UpgradePending other = elim other [ state.Nothing ↦ false | state.UpgradeAvailable ↦ false | state.UpgradePending ↦ true | state.AtLatestKnown ↦ false ]
same_state state.AtLatestKnown other = elim other [ state.Nothing ↦ false | state.UpgradeAvailable ↦ false | state.UpgradePending ↦ false | state.AtLatestKnown ↦ true ]

-- A subscription of the view's namespace: what stands at its key in which version, and its status.
pub record Subscription : Type 0 where
  pub key : Key
  pub version : ℕ
  pub object : Object
  pub status : SubscriptionStatus

abbrev pub subscription_of : Key × Slot → Object → Option Subscription
subscription_of entry object =
    option_map (λ status. record { key = entry.0; version = entry.1.version; object = object; status = status })
    (subscription_at entry.0 (Some object))

-- The subscription of a slot, if one of the view's namespace stands there.
abbrev pub subscription_entry : View → Key × Slot → Option Subscription
subscription_entry view entry =
    if same_text entry.0.namespace view.namespace then option_and_then (subscription_of entry) entry.1.object else None

-- The subscriptions, in the order of the slots, which is that of their names.
abbrev pub subscriptions : View → List Subscription
subscriptions view = filter_map (subscription_entry view) view.slots

-- From the old state of the subscription at the key the edge leads to its state in this view, where that is another one.
pub record IsSubscriptionEdge (view : View) (key : Key) (old new : SubState) : Type 0 where
  pub subscription : Subscription
  pub stands : subscription_entry view (key, slot_in view.slots key) ≡ Some subscription
  pub from : subscription.status.state ≡ old
  pub to : state_of view subscription.status.spec ≡ new
  pub differs : same_state old new ≡ false
