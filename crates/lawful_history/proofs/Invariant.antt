-- The invariant of the induction: what holds after each lawful history, of its slots and of the newest plans, and how a history goes on from each older one.
use Rattle.std.specs.Prelude.{◌≡◌, ◌≤◌, ◌<◌, true, false, ℕ, Some, None, slice_get}
use Rattle.cluster_objects.specs.Kinds.{is_plan_key, as_plan}
use Rattle.cluster_objects.specs.Stamps.{times}
use Rattle.cluster_history.specs.History.{History, position, slot}
use Rattle.lawful_history.specs.Installing.{key_of, step_stamp, is_kept}
use Rattle.lawful_history.specs.Lawful.{last_plan, started, PlanLater, IsPlan}
use Rattle.lawful_history.specs.Sound.{WaitsForApproval, IsUntouchedEarly}
use Rattle.cluster_objects.specs.declared.keys.Key.{Key}
use Rattle.cluster_objects.specs.declared.keys.Stamp.{Stamp}
use Rattle.cluster_objects.specs.declared.plans.Step.{Step}
use Rattle.cluster_objects.specs.declared.plans.StepState.{StepState}
use Rattle.cluster_objects.specs.declared.plans.StepState.TheVariants.{Unknown, Aimed, Created, Present, Overtaken}
use Rattle.cluster_objects.specs.declared.plans.PlanPhase.TheVariants as phase
use Rattle.cluster_objects.specs.declared.plans.PlanStatus.{PlanStatus}
use Rattle.cluster_history.specs.declared.slots.Slot.{Slot}

-- What a step's state says of the slot of its key. A step Created is carried once, and one that is Unknown, Present or Overtaken isn't. Of one that is aimed at a version the key has that version or a higher one. Where it has that very version, the step isn't carried, and no CSV and no Subscription stands there.
abbrev pub StateFits : StepState → Stamp → Key → Slot → Type 0
StateFits Unknown stamp key there = times stamp there.stamps ≡ 0
StateFits (Aimed v) stamp key there = (v ≤ there.version) × (v ≡ there.version → (times stamp there.stamps ≡ 0) × (is_kept key there.object ≡ false))
StateFits Created stamp key there = times stamp there.stamps ≡ 1
StateFits Present stamp key there = times stamp there.stamps ≡ 0
StateFits Overtaken stamp key there = times stamp there.stamps ≡ 0

-- Soundness of a history, read of the newest plan that was ever written at a key.
pub record IsSoundHistory (h : History) : Type 0 where
  pub versions : (key : Key) → (slot h key).version ≤ position h
  -- two keys have no version in common
  pub apart : (a b : Key) → (slot h a).version ≡ (slot h b).version → 0 < (slot h a).version → a ≡ b
  -- a plan that is there is the newest
  pub there : (key : Key) (plan : PlanStatus) → is_plan_key key ≡ true → as_plan (slot h key).object ≡ Some plan → last_plan h key ≡ Some plan
  pub written : (key : Key) → (slot h key).version ≡ 0 → last_plan h key ≡ None
  pub plans : (key : Key) (plan : PlanStatus) → is_plan_key key ≡ true → last_plan h key ≡ Some plan → IsPlan key plan
  pub waits : (key : Key) (plan : PlanStatus) → is_plan_key key ≡ true → last_plan h key ≡ Some plan → WaitsForApproval plan
  pub early : (key : Key) (plan : PlanStatus) → is_plan_key key ≡ true → last_plan h key ≡ Some plan → IsUntouchedEarly plan
  -- a stamp stands nowhere before its plan is written, and then it is that of a step, at the step's key alone, once at most
  pub fresh : (stamp : Stamp) (key : Key) → (slot h (key_of stamp)).version ≡ 0 → times stamp (slot h key).stamps ≡ 0
  pub at_step : (stamp : Stamp) (key : Key) (plan : PlanStatus) → last_plan h (key_of stamp) ≡ Some plan → 0 < times stamp (slot h key).stamps
      → (s : Step) × (slice_get plan.steps stamp.step ≡ Some s) × (s.key ≡ key) × (stamp.plan ≡ plan.number)
  pub once : (stamp : Stamp) (key : Key) → times stamp (slot h key).stamps ≤ 1
  pub states : (key : Key) (plan : PlanStatus) (i : ℕ) (s : Step) → is_plan_key key ≡ true → last_plan h key ≡ Some plan → slice_get plan.steps i ≡ Some s
      → StateFits s.state (step_stamp key plan i) s.key (slot h s.key)
  -- the steps of a plan that was never in Installing are Unknown
  pub begun : (key : Key) (plan : PlanStatus) → last_plan h key ≡ Some plan → plan.phase ≡ phase.Installing → started h key ≡ true
  pub waiting : (key : Key) (plan : PlanStatus) (i : ℕ) (s : Step) → is_plan_key key ≡ true → last_plan h key ≡ Some plan → started h key ≡ false → slice_get plan.steps i ≡ Some s → s.state ≡ Unknown
  -- a stamp stands nowhere before its plan was in Installing
  pub idle : (stamp : Stamp) (key : Key) → started h (key_of stamp) ≡ false → times stamp (slot h key).stamps ≡ 0

-- from an older history on
pub record GoesOn (old new : History) : Type 0 where
  pub versions : (key : Key) → (slot old key).version ≤ (slot new key).version
  pub same : (key : Key) → (slot old key).version ≡ (slot new key).version → slot old key ≡ slot new key
  pub stamps : (stamp : Stamp) (key : Key) → times stamp (slot old key).stamps ≤ times stamp (slot new key).stamps
  pub plans : (key : Key) (plan : PlanStatus) → is_plan_key key ≡ true → last_plan old key ≡ Some plan → (later : PlanStatus) × (last_plan new key ≡ Some later) × PlanLater plan later
  pub begun : (key : Key) → started old key ≡ true → started new key ≡ true
  -- a plan that was removed stays removed
  pub gone : (key : Key) → is_plan_key key ≡ true → 0 < (slot old key).version → (slot old key).object ≡ None → (slot new key).object ≡ None
  -- where a step that was aimed at a version is Overtaken, its key is past that version
  pub passed : (key : Key) (plan later : PlanStatus) (i : ℕ) (s t : Step) (v : ℕ) → is_plan_key key ≡ true → last_plan old key ≡ Some plan → slice_get plan.steps i ≡ Some s → s.state ≡ Aimed v
      → last_plan new key ≡ Some later → slice_get later.steps i ≡ Some t → t.state ≡ Overtaken → v < (slot new s.key).version
  -- where a key was past the version that a step was aimed at, and the step still is, the step's object wasn't written since
  pub stays : (key : Key) (plan later : PlanStatus) (i : ℕ) (s t : Step) (v : ℕ) → is_plan_key key ≡ true → last_plan old key ≡ Some plan → slice_get plan.steps i ≡ Some s → s.state ≡ Aimed v → v < (slot old s.key).version
      → last_plan new key ≡ Some later → slice_get later.steps i ≡ Some t → t.state ≡ Aimed v → times (step_stamp key plan i) (slot new s.key).stamps ≡ times (step_stamp key plan i) (slot old s.key).stamps
