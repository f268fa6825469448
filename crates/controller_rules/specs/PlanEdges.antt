-- The edges of a plan.
use Rattle.std.specs.Prelude.{◌≡◌, true, Option, Some, None}
use Rattle.cluster_objects.specs.Kinds.{plan_at}
use Rattle.cluster_objects.specs.declared.keys.Key.{Key}
use Rattle.cluster_objects.specs.declared.plans.PlanPhase.{PlanPhase}
use Rattle.cluster_objects.specs.declared.plans.PlanStatus.{PlanStatus}
use Rattle.cluster_objects.specs.declared.resolutions.ResolutionStatus.{ResolutionStatus}
use Rattle.cluster_history.specs.History.{slot_in}
use Rattle.cluster_history.specs.Views.{View}
use Rattle.lawful_history.specs.Installing.{install_key}
use Rattle.history_laws.specs.Edges.{PhaseEdge}
use Rattle.controller_rules.specs.Resolving.{Stands, has_no_plan, plan_made}

-- The plan at the key of the decision that stands begins in the phase in which it is made.
pub record IsBeginning (view : View) (key : Key) (new : PlanPhase) : Type 0 where
  pub found : ResolutionStatus
  pub stands : Stands view found
  pub due : has_no_plan view found ≡ true
  pub place : key ≡ install_key view.namespace found.number
  pub phase : (plan_made view found).phase ≡ new

-- The plan that stands at the key in the view goes on to a phase.
pub record IsGoingOn (view : View) (key : Key) (old new : PlanPhase) : Type 0 where
  pub plan : PlanStatus
  pub stands : plan_at key (slot_in view.slots key).object ≡ Some plan
  pub from : plan.phase ≡ old
  pub edge : PhaseEdge plan new

-- From the old phase of the plan at the key, or from no plan, an edge leads to the new phase in this view.
abbrev pub IsPlanEdge : View → Key → Option PlanPhase → PlanPhase → Type 0
IsPlanEdge view key None new = IsBeginning view key new
IsPlanEdge view key (Some old) new = IsGoingOn view key old new
