-- What a run of a command line comes to, by the world before and afterwards.
use Rattle.std.specs.Prelude.{◌≡◌, ◌⊎◌, ℕ, Bool, true, false, List, Option, Some, None, Result}
use Rattle.olm_cli.specs.declared.causes.Cause.{Cause}
use Rattle.olm_cli.specs.declared.causes.Cause.TheVariants.{BadWords, NoMemory}
use Rattle.olm_cli.specs.Checking.{CheckRuns}
use Rattle.olm_cli.specs.Cluster.{DecideRuns, ShowRuns}
use Rattle.olm_cli.specs.Graph.{GraphRuns}
use Rattle.olm_cli.specs.Places.{Holds, is_folder, is_input}
use Rattle.olm_cli.specs.Resolving.{ResolveRuns}
use Rattle.olm_cli.specs.Running.{RunRuns}
use Rattle.olm_cli.specs.Runs.{Ran, stopped, After, Comes}
use Rattle.olm_cli.specs.Verifying.{VerifyRuns}
use Rattle.olm_cli.specs.Words.{Place, Task, Check, Graph, Resolve, Command, Help, OnCatalog, Verify, Run, Show, Decide}
use Rattle.olm_cli.specs.Worlds.{World, StandsStill}

-- Each task has its runs over the text of a catalog.
abbrev pub TaskRuns : Task → List ℕ → Ran → Type 0
TaskRuns Check text = CheckRuns text
TaskRuns (Graph package_name channel) text = GraphRuns package_name channel text
TaskRuns (Resolve budget package_name channel) text = ResolveRuns budget package_name channel text

-- The text of the place is read, and then the task is done.
abbrev pub CatalogRuns : Place → Task → Option (List (List ℕ × List ℕ)) → Option (List ℕ) → Ran → Type 0
CatalogRuns place task files left ran = (found : Result (List ℕ) Cause) × Holds place files left found × After found (TaskRuns task) ran

-- The help is printed, whatever its text is.
abbrev pub HelpRuns : Ran → Type 0
HelpRuns ran = ran.end ≡ None

-- A permitted text is printed, or a front of one, and the cluster file stands for what it did.
abbrev pub Prints : (Ran → Type 0) → World → World → Option Cause → Type 0
Prints Permits old new end = Comes Permits end old.out new.out × StandsStill old new

-- Each command has its runs: the world before and afterwards, and the cause for which the run isn't done. Words that are no command stop before anything is read.
abbrev pub CommandRuns : Option Command → World → World → Option Cause → Type 0
CommandRuns None old new end = Prints (λ ran. ran ≡ stopped BadWords) old new end
CommandRuns (Some Help) old new end = Prints HelpRuns old new end
CommandRuns (Some (OnCatalog place task)) old new end = Prints (CatalogRuns place task old.files old.left) old new end
CommandRuns (Some (Verify path package_name channel)) old new end = Prints (VerifyRuns path package_name channel old.files old.left) old new end
CommandRuns (Some Run) old new end = RunRuns old new end
CommandRuns (Some (Show namespace)) old new end = Prints (ShowRuns namespace old.tells old.content) old new end
CommandRuns (Some (Decide budget namespace)) old new end = Prints (DecideRuns budget namespace old.tells old.content) old new end

-- what a command reads, and whether it opens the cluster file; `run` reads the folder at a `catalog` event alone
abbrev pub reads_folder : Option Command → Bool
reads_folder None = false
reads_folder (Some Help) = false
reads_folder (Some (OnCatalog place task)) = is_folder place
reads_folder (Some (Verify path package_name channel)) = true
reads_folder (Some Run) = true
reads_folder (Some (Show namespace)) = false
reads_folder (Some (Decide budget namespace)) = false

-- the command that applies events
abbrev pub is_run : Option Command → Bool
is_run None = false
is_run (Some Help) = false
is_run (Some (OnCatalog place task)) = false
is_run (Some (Verify path package_name channel)) = false
is_run (Some Run) = true
is_run (Some (Show namespace)) = false
is_run (Some (Decide budget namespace)) = false

abbrev pub reads_input : Option Command → Bool
reads_input None = false
reads_input (Some Help) = false
reads_input (Some (OnCatalog place task)) = is_input place
reads_input (Some (Verify path package_name channel)) = true
reads_input (Some Run) = true
reads_input (Some (Show namespace)) = false
reads_input (Some (Decide budget namespace)) = false

abbrev pub opens_file : Option Command → Bool
opens_file None = false
opens_file (Some Help) = false
opens_file (Some (OnCatalog place task)) = false
opens_file (Some (Verify path package_name channel)) = false
opens_file (Some Run) = true
opens_file (Some (Show namespace)) = true
opens_file (Some (Decide budget namespace)) = true

-- The cause that is told is that of the run, or want of memory to make its line.
abbrev pub IsToldAs : Option Cause → Option Cause → Type 0
IsToldAs None told = told ≡ None
IsToldAs (Some cause) told = (told ≡ Some cause) ⊎ (told ≡ Some NoMemory)
