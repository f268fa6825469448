-- There is a run of `resolve` for each text.
use Rattle.std.proofs.Common.{◌≡◌, ℕ, List, refl, Option, Some, None, Err}
use Rattle.problem_build.specs.declared.building.BuildFault.TheVariants.{Memory}
use Rattle.olm_base.specs.Names.{is_name}
use Rattle.catalog_choice.specs.Asking.{IsAskedBy, name_of}
use Rattle.olm_cli.specs.Resolving.{Answers, answered_run}
use Rattle.olm_cli.specs.Runs.{Ran}

-- memory may run out, whatever is asked
pub no_memory : (body : List ℕ) (owner channel : Option (List ℕ)) → IsAskedBy body owner channel (Err Memory)
no_memory body (Some owner) (Some channel) = tt
no_memory body (Some owner) None = tt
no_memory body None channel = tt

pub an_answered_run : (budget : ℕ) (package_name channel text : List ℕ) → (ran : Ran) × Answers budget package_name channel text ran
an_answered_run budget package_name channel text = (answered_run (Err Memory), (Err Memory, no_memory text (name_of package_name) (name_of channel), refl))
