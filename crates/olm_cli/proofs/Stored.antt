-- What is shown and decided of a cluster file, and the runs of its events.
use Rattle.std.proofs.Common.{◌≡◌, ◌∙◌, ℕ, List, [], Bool, true, false, not, refl, sym, ap, subst, Option, Some, None, Result, Ok, Err}
use Rattle.cluster_commands.specs.Asked.{IsAskedBy, IsAskedIn, seen_in, shown_in}
use Rattle.cluster_history.specs.History.{History}
use Rattle.cluster_history.specs.Views.{View}
use Rattle.catalog_choice.specs.declared.deciding.Answer.{Answer}
use Rattle.file_commands.specs.Answers as file
use Rattle.file_commands.specs.Opens.{Opens}
use Rattle.file_commands.specs.declared.faults.FileFault.{FileFault}
use Rattle.file_commands.specs.declared.faults.FileFault.TheVariants as fault
use Rattle.olm_base.specs.Outcome.{Ends}
use Rattle.olm_io.specs.Outside.{Puts}
use Rattle.problem_build.specs.declared.building.BuildFault.TheVariants as build
use Rattle.olm_cli.specs.declared.causes.Cause.{Cause}
use Rattle.olm_cli.specs.declared.causes.Cause.TheVariants.{Damaged, DiskFailed, NoMemory, TooManyVariables}
use Rattle.olm_cli.specs.Causes.{is_free, is_free_end}
use Rattle.olm_cli.specs.Cluster.{Decides, DecideRuns, FileHolds, Shows, ShowRuns, file_cause, or_damaged}
use Rattle.olm_cli.specs.Resolving.{answered_run, ended}
use Rattle.olm_cli.specs.Runs.{Ran, AfterHeld, Comes}
use Rattle.olm_cli.proofs.Came.{held_comes, step_comes, stopped_comes, value_comes}

a_shown_run : (namespace : List ℕ) (h : History) → (ran : Ran) × Shows namespace h ran
a_shown_run namespace h = (record { output = shown_in h namespace; end = None }, refl)

-- the lines of the history that was found are put
pub shown_comes : {T : Type 0} (Gives : History → T → Type 0) (namespace lines : List ℕ) (tells : Bool) (content : List ℕ) (answer : T) (end : Option Cause) (old new : Option (List ℕ))
    → (found : Result History ℕ) × Opens tells content found × file.Answers Gives file.NoProblem found (Ok answer)
    → ((h : History) → Gives h answer → lines ≡ shown_in h namespace) → Ends is_free_end None end → Puts (not (is_free_end end)) old new lines
    → Comes (ShowRuns namespace tells content) end old new
shown_comes Gives namespace lines tells content answer end old new a same ends put =
    let step = or_damaged a.0 in
    let given : (h : History) × (a.0 ≡ Ok h) × Gives h answer = a.2 in
    held_comes (FileHolds tells content) (Shows namespace) step end old new (a.0, a.1, refl)
    (value_comes step (Shows namespace) given.0 end old new (ap or_damaged given.1)
    (record { output = shown_in given.0 namespace; end = None }, refl, ends, subst (λ piece. Puts (not (is_free_end end)) old new piece) (same given.0 given.2) put))

-- the file gives a cause to stop, or one came that may come at any time
unopened_comes : (Permits : History → Ran → Type 0) (tells : Bool) (content : List ℕ) (found : Result History ℕ) (cause : Cause) (known : Option (List ℕ))
    → ((h : History) → (ran : Ran) × Permits h ran) → Opens tells content found → (is_free cause ≡ false → or_damaged found ≡ Err cause)
    → Comes (AfterHeld (FileHolds tells content) Permits) (Some cause) known known
unopened_comes Permits tells content found cause known each opens given =
    held_comes (FileHolds tells content) Permits (or_damaged found) (Some cause) known known (found, opens, refl) (step_comes (or_damaged found) Permits cause known each given)

unshown_by : {T : Type 0} (Gives : History → T → Type 0) (namespace : List ℕ) (tells : Bool) (content : List ℕ) (found : Result History ℕ) (why : FileFault) (known : Option (List ℕ))
    → Opens tells content found → file.Answers {T = T} Gives file.NoProblem found (Err why) → Comes (ShowRuns namespace tells content) (Some (file_cause why)) known known
unshown_by Gives namespace tells content found (fault.Damaged at) known opens e = unopened_comes (Shows namespace) tells content found (Damaged at) known (a_shown_run namespace) opens (λ bound. ap or_damaged e)
unshown_by Gives namespace tells content found fault.Failed known opens e = unopened_comes (Shows namespace) tells content found DiskFailed known (a_shown_run namespace) opens (λ bound. absurd (let bad : true ≡ false = bound in cc))
unshown_by Gives namespace tells content found (fault.TooManyVariables count) known opens e = absurd (e.2)
unshown_by Gives namespace tells content found fault.Memory known opens e = unopened_comes (Shows namespace) tells content found NoMemory known (a_shown_run namespace) opens (λ bound. absurd (let bad : true ≡ false = bound in cc))

pub unshown_comes : {T : Type 0} (answer : Result T FileFault) (Gives : History → T → Type 0) (namespace : List ℕ) (tells : Bool) (content : List ℕ) (why : FileFault) (known : Option (List ℕ))
    → (found : Result History ℕ) × Opens tells content found × file.Answers {T = T} Gives file.NoProblem found (Err why)
    → Comes (ShowRuns namespace tells content) (Some (file_cause why)) known known
unshown_comes answer Gives namespace tells content why known a = unshown_by Gives namespace tells content a.0 why known a.1 a.2

-- memory may run out, whatever is asked
no_memory_asked : (seen : Option View) → IsAskedBy seen (Err build.Memory)
no_memory_asked (Some view) = tt
no_memory_asked None = tt

a_decided_run : (budget : ℕ) (namespace : List ℕ) (h : History) → (ran : Ran) × Decides budget namespace h ran
a_decided_run budget namespace h = (answered_run (Err build.Memory), (Err build.Memory, no_memory_asked (seen_in h namespace), refl))

-- the decision over the history that was found is put
pub decided_comes : (budget : ℕ) (namespace : List ℕ) (answer : Answer) (tells : Bool) (content : List ℕ) (end : Option Cause) (old new : Option (List ℕ))
    → (found : Result History ℕ) × Opens tells content found × file.Answers (file.IsDecision namespace budget) (file.IsProblemSize namespace) found (Ok answer)
    → Ends is_free_end (ended answer.decided) end → Puts (not (is_free_end end)) old new answer.text.items
    → Comes (DecideRuns budget namespace tells content) end old new
decided_comes budget namespace answer tells content end old new a ends put =
    let step = or_damaged a.0 in
    let given : (h : History) × (a.0 ≡ Ok h) × file.IsDecision namespace budget h answer = a.2 in
    held_comes (FileHolds tells content) (Decides budget namespace) step end old new (a.0, a.1, refl)
    (value_comes step (Decides budget namespace) given.0 end old new (ap or_damaged given.1) (answered_run (Ok answer), (Ok answer, given.2, refl), ends, put))

undecided_by : (budget : ℕ) (namespace : List ℕ) (tells : Bool) (content : List ℕ) (found : Result History ℕ) (why : FileFault) (known : Option (List ℕ))
    → Opens tells content found → file.Answers (file.IsDecision namespace budget) (file.IsProblemSize namespace) found (Err why)
    → Comes (DecideRuns budget namespace tells content) (Some (file_cause why)) known known
undecided_by budget namespace tells content found (fault.Damaged at) known opens e = unopened_comes (Decides budget namespace) tells content found (Damaged at) known (a_decided_run budget namespace) opens (λ bound. ap or_damaged e)
undecided_by budget namespace tells content found fault.Failed known opens e = unopened_comes (Decides budget namespace) tells content found DiskFailed known (a_decided_run budget namespace) opens (λ bound. absurd (let bad : true ≡ false = bound in cc))
undecided_by budget namespace tells content found (fault.TooManyVariables count) known opens e =
    let step = or_damaged found in
    held_comes (FileHolds tells content) (Decides budget namespace) step (Some (TooManyVariables count)) known known (found, opens, refl)
    (value_comes step (Decides budget namespace) e.0 (Some (TooManyVariables count)) known known (ap or_damaged e.1)
    (stopped_comes (Decides budget namespace e.0) (TooManyVariables count) known (Err (build.TooManyVariables count), e.2, refl)))
undecided_by budget namespace tells content found fault.Memory known opens e = unopened_comes (Decides budget namespace) tells content found NoMemory known (a_decided_run budget namespace) opens (λ bound. absurd (let bad : true ≡ false = bound in cc))

pub undecided_comes : (budget : ℕ) (namespace : List ℕ) (tells : Bool) (content : List ℕ) (why : FileFault) (known : Option (List ℕ))
    → (found : Result History ℕ) × Opens tells content found × file.Answers (file.IsDecision namespace budget) (file.IsProblemSize namespace) found (Err why)
    → Comes (DecideRuns budget namespace tells content) (Some (file_cause why)) known known
undecided_comes budget namespace tells content why known a = undecided_by budget namespace tells content a.0 why known a.1 a.2
