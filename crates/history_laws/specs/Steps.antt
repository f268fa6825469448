-- What a write with a stamp is.
use Rattle.std.specs.Prelude.{◌≡◌, ◌≤◌, Some, slice_get}
use Rattle.cluster_objects.specs.Kinds.{status_of}
use Rattle.cluster_objects.specs.declared.keys.Stamp.{Stamp}
use Rattle.cluster_objects.specs.declared.objects.Object.{Object}
use Rattle.cluster_objects.specs.declared.objects.Write.{Write}
use Rattle.cluster_objects.specs.declared.objects.Writer.TheVariants as writer
use Rattle.cluster_objects.specs.declared.plans.Step.{Step}
use Rattle.cluster_objects.specs.declared.plans.StepState.TheVariants.{Aimed}
use Rattle.cluster_objects.specs.declared.plans.PlanStatus.{PlanStatus}
use Rattle.cluster_history.specs.History.{History, position, slot}
use Rattle.lawful_history.specs.Installing.{key_of, owner_of}
use Rattle.lawful_history.specs.Lawful.{last_plan}

-- The write puts this object for the step that the stamp names, a step of the newest plan at the stamp's key, which is aimed at the version that the step's key has.
pub record PutsStep (h : History) (w : Write) (object : Object) (stamp : Stamp) : Type 0 where
  pub by : w.by ≡ writer.Installer
  pub plan : PlanStatus
  pub step : Step
  pub newest : last_plan h (key_of stamp) ≡ Some plan
  pub number : stamp.plan ≡ plan.number
  pub at : slice_get plan.steps stamp.step ≡ Some step
  pub aimed : step.state ≡ Aimed (slot h w.key).version
  pub key : w.key ≡ step.key
  pub body : object.body ≡ step.body
  pub status : object.status ≡ status_of step.made
  pub owner : object.owner ≡ owner_of (slot h w.key).object
  pub seen : object.seen ≤ position h
