-- What `show` and `decide` come to: what the history of the cluster file shows of a namespace.
use Rattle.std.specs.Prelude.{◌≡◌, ℕ, Bool, List, Option, Some, None, Result, Ok, Err}
use Rattle.catalog_choice.specs.Deciding.{IsAnsweredBy}
use Rattle.catalog_choice.specs.declared.deciding.Answer.{Answer}
use Rattle.cluster_commands.specs.Asked.{IsAskedIn, shown_in}
use Rattle.cluster_history.specs.History.{History}
use Rattle.file_commands.specs.Opens.{Opens}
use Rattle.file_commands.specs.declared.faults.FileFault.{FileFault}
use Rattle.file_commands.specs.declared.faults.FileFault.TheVariants as fault
use Rattle.problem_build.specs.declared.building.BuildFault.{BuildFault}
use Rattle.olm_cli.specs.declared.causes.Cause.{Cause}
use Rattle.olm_cli.specs.declared.causes.Cause.TheVariants.{Damaged, DiskFailed, NoMemory, TooManyVariables}
use Rattle.olm_cli.specs.Resolving.{answered_run}
use Rattle.olm_cli.specs.Runs.{Ran, AfterHeld}

-- the history that was found in the file, where it isn't damaged
abbrev pub or_damaged : Result History ℕ → Result History Cause
or_damaged (Ok h) = Ok h
or_damaged (Err at) = Err (Damaged at)

-- the cause for which nothing is shown or decided
abbrev pub file_cause : FileFault → Cause
file_cause (fault.Damaged at) = Damaged at
file_cause fault.Failed = DiskFailed
file_cause (fault.TooManyVariables count) = TooManyVariables count
file_cause fault.Memory = NoMemory

abbrev pub FileHolds : Bool → List ℕ → Result History Cause → Type 0
FileHolds tells content step = (found : Result History ℕ) × Opens tells content found × (step ≡ or_damaged found)

-- a line for each object of the namespace
abbrev pub Shows : List ℕ → History → Ran → Type 0
Shows namespace h ran = ran ≡ record { output = shown_in h namespace; end = None }

-- what is told within the budget of what is asked in the namespace
abbrev pub Decides : ℕ → List ℕ → History → Ran → Type 0
Decides budget namespace h ran =
    (answer : Result Answer BuildFault) × IsAnsweredBy (IsAskedIn h namespace) budget answer × (ran ≡ answered_run answer)

-- The file is opened first.
abbrev pub ShowRuns : List ℕ → Bool → List ℕ → Ran → Type 0
ShowRuns namespace tells content = AfterHeld (FileHolds tells content) (Shows namespace)

abbrev pub DecideRuns : ℕ → List ℕ → Bool → List ℕ → Ran → Type 0
DecideRuns budget namespace tells content = AfterHeld (FileHolds tells content) (Decides budget namespace)
