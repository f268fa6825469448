-- The resolver's write, case by case.
use Rattle.std.proofs.Common.{◌≡◌, true, false, Some, None, Result, Ok, Err}
use Rattle.std.specs.Result.{IfOk}
use Rattle.olm_base.specs.declared.memory.Memory.{Memory}
use Rattle.cluster_objects.specs.declared.objects.Write.{Write}
use Rattle.cluster_objects.specs.declared.resolutions.ResolutionStatus.{ResolutionStatus}
use Rattle.cluster_history.specs.Views.{View}
use Rattle.controller_rules.specs.Enabled.{IsResolversFirst}
use Rattle.controller_rules.specs.Resolving.{Decides, IsDone, IsDue, IsNext, IsResolversWrite, Plans, Rests, Stands, current, has_no_plan, is_resting, new_plan_write, resolution_write}

pub rests : (view : View) → is_resting view ≡ true → IsResolversFirst view None
rests view resting = Rests resting

pub is_done : (view : View) (found : ResolutionStatus) → Stands view found → has_no_plan view found ≡ false → IsResolversFirst view None
is_done view found stands planned = IsDone found stands planned

pub decides : (view : View) (new : ResolutionStatus) (w : Write) → is_resting view ≡ false → IsDue view (current view) → IsNext view new
    → w ≡ resolution_write view new → IsResolversWrite view w
decides view new w awake due next is = Decides awake due new next is

pub plans : (view : View) (found : ResolutionStatus) (w : Write) → is_resting view ≡ false → Stands view found → has_no_plan view found ≡ true
    → w ≡ new_plan_write view found → IsResolversFirst view (Some w)
plans view found w awake stands missing is = Plans awake found stands missing is

-- the same of what may lack memory
pub decided_write : (view : View) (new : ResolutionStatus) (r : Result Write Memory) → is_resting view ≡ false → IsDue view (current view) → IsNext view new
    → IfOk r (λ w. w ≡ resolution_write view new) → IfOk r (λ w. IsResolversWrite view w)
decided_write view new (Ok w) awake due next is = Decides awake due new next is
decided_write view new (Err memory) awake due next is = tt
