-- What holds of every plan that a resolution has.
use Rattle.std.specs.Prelude.{◌≡◌, ℕ, List, Result, Ok}
use Rattle.cluster_objects.specs.declared.plans.PlanStatus.{PlanStatus}
use Rattle.cluster_objects.specs.declared.resolutions.ResolutionStatus.{ResolutionStatus}
use Rattle.cluster_history.specs.Views.{View}
use Rattle.lawful_history.specs.Installing.{install_key}
use Rattle.lawful_history.specs.Lawful.{IsPlan, IsNew}
use Rattle.install_plan.specs.Plans.{plan_of}

-- The plan may be written at the key of its number: its steps have distinct keys, which a plan may write, and it is new.
abbrev pub PlansAreNew : Type 0
PlansAreNew =
    (resolution : ResolutionStatus) (view : View) (plan : PlanStatus) → plan_of resolution view ≡ Ok plan
    → IsPlan (install_key view.namespace resolution.number) plan × IsNew plan
