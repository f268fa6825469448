-- What a state is that a history may begin with, and which histories are lawful.
use Rattle.std.specs.Prelude.{◌≡◌, ◌≤◌, ◌<◌, ◌⊎◌, Bool, true, false, ℕ, List, Some, slice_get}
use Rattle.cluster_objects.specs.Kinds.{plan_at}
use Rattle.cluster_objects.specs.Stamps.{times}
use Rattle.cluster_history.specs.History.{History, Start, After, Slots, IsBase, slot, slot_in, times_in}
use Rattle.lawful_history.specs.Installing.{key_of, step_stamp, is_kept}
use Rattle.lawful_history.specs.Lawful.{is_early, IsPlan, IsAllowed, HasValidCatalog}
use Rattle.cluster_objects.specs.declared.keys.Key.{Key}
use Rattle.cluster_objects.specs.declared.keys.Stamp.{Stamp}
use Rattle.cluster_objects.specs.declared.plans.Step.{Step}
use Rattle.cluster_objects.specs.declared.plans.StepState.{StepState}
use Rattle.cluster_objects.specs.declared.plans.StepState.TheVariants.{Unknown, Aimed, Created, Present, Overtaken}
use Rattle.cluster_objects.specs.declared.plans.PlanPhase.TheVariants as phase
use Rattle.cluster_objects.specs.declared.plans.PlanStatus.{PlanStatus}
use Rattle.cluster_history.specs.declared.slots.Base.{Base}

-- A plan that is manual and not approved is in RequiresApproval or Failed, and each of its steps is Unknown.
abbrev pub WaitsForApproval : PlanStatus → Type 0
WaitsForApproval plan = plan.manual ≡ true → plan.approved ≡ false
    → ((plan.phase ≡ phase.RequiresApproval) ⊎ (plan.phase ≡ phase.Failed)) × ((i : ℕ) (s : Step) → slice_get plan.steps i ≡ Some s → s.state ≡ Unknown)

-- In Planning and RequiresApproval every step is Unknown.
abbrev pub IsUntouchedEarly : PlanStatus → Type 0
IsUntouchedEarly plan = is_early plan.phase ≡ true → (i : ℕ) (s : Step) → slice_get plan.steps i ≡ Some s → s.state ≡ Unknown

-- What a step's state says of all slots together.
abbrev pub StepStands : StepState → Stamp → Key → Slots → Type 0
StepStands Unknown stamp key slots = times_in stamp slots ≡ 0
StepStands (Aimed v) stamp key slots = (times_in stamp slots ≤ 1) × (v ≤ (slot_in slots key).version)
    × (v ≡ (slot_in slots key).version → (times_in stamp slots ≡ 0) × (is_kept key (slot_in slots key).object ≡ false))
StepStands Created stamp key slots = times_in stamp slots ≡ 1
StepStands Present stamp key slots = times_in stamp slots ≡ 0
StepStands Overtaken stamp key slots = times_in stamp slots ≡ 0

-- What a state has to be that a history may begin with.
pub record IsSound (is_valid : List ℕ → Bool) (slots : Slots) : Type 0 where
  -- each stamp stands at most once in all slots together, and the key of its plan has a slot
  pub once : (stamp : Stamp) → times_in stamp slots ≤ 1
  pub planned : (stamp : Stamp) → 0 < times_in stamp slots → 0 < (slot_in slots (key_of stamp)).version
  -- where that slot holds the plan, the stamp is that of one of its steps, and stands in the slot of that step's key
  pub at_step : (stamp : Stamp) (plan : PlanStatus) → 0 < times_in stamp slots → plan_at (key_of stamp) (slot_in slots (key_of stamp)).object ≡ Some plan
      → (s : Step) × (slice_get plan.steps stamp.step ≡ Some s) × (stamp.plan ≡ plan.number) × (0 < times stamp (slot_in slots s.key).stamps)
  -- each plan that is there bears its own number and is about steps that may be
  pub plans : (key : Key) (plan : PlanStatus) → plan_at key (slot_in slots key).object ≡ Some plan → IsPlan key plan
  pub waits : (key : Key) (plan : PlanStatus) → plan_at key (slot_in slots key).object ≡ Some plan → WaitsForApproval plan
  pub early : (key : Key) (plan : PlanStatus) → plan_at key (slot_in slots key).object ≡ Some plan → IsUntouchedEarly plan
  pub states : (key : Key) (plan : PlanStatus) (i : ℕ) (s : Step) → plan_at key (slot_in slots key).object ≡ Some plan → slice_get plan.steps i ≡ Some s
      → StepStands s.state (step_stamp key plan i) s.key slots
  -- each CatalogSource has a valid catalog as its body
  pub catalogs : (key : Key) → HasValidCatalog is_valid key (slot_in slots key).object

-- a base that a history may begin with
abbrev pub IsSoundBase : (List ℕ → Bool) → Base → Type 0
IsSoundBase is_valid base = IsBase base × IsSound is_valid base.slots

-- The history begins at a sound base, and each write expects its key's version and is allowed after the writes before it.
abbrev pub IsLawful : (List ℕ → Bool) → History → Type 0
IsLawful is_valid (Start base) = IsSoundBase is_valid base
IsLawful is_valid (After w h) = (w.expect ≡ (slot h w.key).version) × IsAllowed is_valid h w × IsLawful is_valid h
