-- The next write of a view, role by role.
use Rattle.std.proofs.Common.{Option, Some, None, Result, Ok, Err}
use Rattle.std.specs.Result.{IfOk}
use Rattle.olm_base.specs.declared.memory.Memory.{Memory}
use Rattle.cluster_objects.specs.declared.objects.Write.{Write}
use Rattle.cluster_history.specs.Views.{View}
use Rattle.controller_rules.specs.Enabled.{IsFirst}
use Rattle.controller_rules.specs.declared.roles.Role.TheVariants.{Resolver, Installer, Phases}
use Rattle.run_rules.specs.Settling.{ByPhases}
use Rattle.controller.specs.Answers.{IsNext}

pub phases_next : (view : View) (r : Result (Option Write) Memory) → IsFirst Resolver view None → IsFirst Installer view None
    → IfOk r (λ write. IsFirst Phases view write) → IfOk r (λ write. IsNext view write)
phases_next view (Ok None) resolver installer is = record { resolver = resolver; installer = installer; phases = is }
phases_next view (Ok (Some w)) resolver installer is = ByPhases resolver installer is
phases_next view (Err e) resolver installer is = tt
