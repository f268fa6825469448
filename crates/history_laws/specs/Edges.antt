-- What one write may make of a plan.
use Rattle.std.specs.Prelude.{◌≡◌, ◌⊎◌, Bool, true, false, ℕ, List, Some, slice_get}
use Rattle.cluster_objects.specs.declared.plans.Step.{Step}
use Rattle.cluster_objects.specs.declared.plans.StepState.{StepState}
use Rattle.cluster_objects.specs.declared.plans.StepState.TheVariants.{Unknown, Aimed, Created, Present, Overtaken}
use Rattle.cluster_objects.specs.declared.plans.PlanPhase.{PlanPhase}
use Rattle.cluster_objects.specs.declared.plans.PlanPhase.TheVariants as phase
use Rattle.cluster_objects.specs.declared.plans.PlanStatus.{PlanStatus}
use Rattle.lawful_history.specs.Installing.{with_phase, with_step}

-- By one write a step's state stays, or goes from Unknown to Present or to Aimed, or from Aimed to Created or to Overtaken.
abbrev pub StateEdge : StepState → StepState → Type 0
StateEdge Unknown new = (new ≡ Unknown) ⊎ ((new ≡ Present) ⊎ ((v : ℕ) × (new ≡ Aimed v)))
StateEdge (Aimed v) new = (new ≡ Aimed v) ⊎ ((new ≡ Created) ⊎ (new ≡ Overtaken))
StateEdge Created new = new ≡ Created
StateEdge Present new = new ≡ Present
StateEdge Overtaken new = new ≡ Overtaken

-- nothing is left to do for a step
abbrev pub is_done : StepState → Bool
is_done Unknown = false
is_done (Aimed v) = false
is_done Created = true
is_done Present = true
is_done Overtaken = false

abbrev pub IsDone : List Step → Type 0
IsDone steps = (i : ℕ) (s : Step) → slice_get steps i ≡ Some s → is_done s.state ≡ true

abbrev pub HasOvertaken : List Step → Type 0
HasOvertaken steps = (i : ℕ) × (s : Step) × (slice_get steps i ≡ Some s) × (s.state ≡ Overtaken)

-- The edges of a plan's phase.
pub data PhaseEdge (plan : PlanStatus) (new : PlanPhase) : Type 0 where
  Begins : plan.phase ≡ phase.Planning → new ≡ phase.Installing → PhaseEdge plan new
  BeginsApproved : plan.phase ≡ phase.RequiresApproval → plan.approved ≡ true → new ≡ phase.Installing → PhaseEdge plan new
  Completes : plan.phase ≡ phase.Installing → IsDone plan.steps → new ≡ phase.Complete → PhaseEdge plan new
  Fails : plan.phase ≡ phase.Installing → HasOvertaken plan.steps → new ≡ phase.Failed → PhaseEdge plan new

-- One write leaves the plan as it was, or approves it, or moves its phase, or moves one step while it is in Installing. It changes nothing else of it.
pub data PlanEdge (plan new : PlanStatus) : Type 0 where
  Stays : new ≡ plan → PlanEdge plan new
  BecomesApproved : new ≡ record plan { approved = true } → PlanEdge plan new
  MovesPhase : (x : PlanPhase) → PhaseEdge plan x → new ≡ with_phase plan x → PlanEdge plan new
  MovesStep : (i : ℕ) (s : Step) (x : StepState) → plan.phase ≡ phase.Installing → slice_get plan.steps i ≡ Some s → StateEdge s.state x → new ≡ with_step plan i s x → PlanEdge plan new

-- a step after one write
pub record StepEdge (old new : Step) : Type 0 where
  pub key : new.key ≡ old.key
  pub body : new.body ≡ old.body
  pub made : new.made ≡ old.made
  pub state : StateEdge old.state new.state
