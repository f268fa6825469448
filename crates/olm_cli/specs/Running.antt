-- What `run` comes to: all events of the input are applied, from the history on for which the cluster file stands.
use Rattle.std.specs.List.{list_any}
use Rattle.std.specs.Prelude.{◌≡◌, ℕ, Bool, true, false, List, Option, Some, None, Result, Ok, Err}
use Rattle.cluster_history.specs.History.{History}
use Rattle.event_runs.specs.declared.halts.Halt.{Halt}
use Rattle.event_runs.specs.declared.halts.Halt.TheVariants as halt
use Rattle.event_script.specs.Script.{events_of}
use Rattle.event_script.specs.declared.events.Event.{Event}
use Rattle.event_script.specs.declared.reading.EventFault.{EventFault}
use Rattle.event_script.specs.declared.reading.EventFault.TheVariants as fault
use Rattle.file_commands.specs.FileRuns.{FileRuns}
use Rattle.file_commands.specs.Opens.{Opens}
use Rattle.file_commands.specs.declared.faults.RunFault.{RunFault}
use Rattle.file_commands.specs.declared.faults.RunFault.TheVariants as run
use Rattle.folder_events.specs.Events.{is_of_folder}
use Rattle.json_fields.specs.Faults.{and_then}
use Rattle.olm_base.specs.Outcome.{Gives}
use Rattle.olm_io.specs.Outside.{IsTold}
use Rattle.olm_cli.specs.declared.causes.Cause.{Cause}
use Rattle.olm_cli.specs.declared.causes.Cause.TheVariants.{NoChoice, NotAccepted, BrokenRules, NoChannel, BadWords, Stream, SplitFile, FileNotRead, Field, NoEvent, UnknownEvent, FolderFailed, InputFailed, DiskFailed, OutputFailed, NoMemory, BudgetSpent, Damaged, TooLong, TooManyVariables, StoreFull}
use Rattle.olm_cli.specs.Causes.{is_free}
use Rattle.olm_cli.specs.Places.{within_limit}
use Rattle.olm_cli.specs.Worlds.{World, IsStill}

-- the cause for which a text gives no events
abbrev pub event_cause : EventFault → Cause
event_cause (fault.Stream found) = Stream found
event_cause (fault.Field blob path kind) = Field blob path kind
event_cause (fault.NoEvent blob) = NoEvent blob
event_cause (fault.UnknownEvent blob) = UnknownEvent blob
event_cause fault.Memory = NoMemory

abbrev pub or_event_cause : Result (List Event) EventFault → Result (List Event) Cause
or_event_cause (Ok events) = Ok events
or_event_cause (Err found) = Err (event_cause found)

-- All events of an input, which is read whole before. The first fault gives the cause.
abbrev pub script_of : List ℕ → Result (List Event) Cause
script_of text = and_then (within_limit text) (λ input. or_event_cause (events_of input))

abbrev pub HoldsScript : Option (List ℕ) → Result (List Event) Cause → Type 0
HoldsScript left script = (text : List ℕ) × IsTold left text × (script ≡ script_of text)

-- a script that was read asks for a `catalog` event
abbrev pub asks_catalog : Result (List Event) Cause → Bool
asks_catalog (Ok events) = list_any is_of_folder events
asks_catalog (Err cause) = false

-- The script of the input asks for none: where the input tells what it holds it is that of this text, and else none of any text may.
abbrev pub AsksNoCatalog : Option (List ℕ) → Type 0
AsksNoCatalog left = (text : List ℕ) → IsTold left text → asks_catalog (script_of text) ≡ false

-- may come before the file is opened
abbrev pub is_of_script : Cause → Bool
is_of_script NoChoice = false
is_of_script NotAccepted = false
is_of_script BrokenRules = false
is_of_script NoChannel = false
is_of_script BadWords = false
is_of_script (Stream fault) = true
is_of_script (SplitFile path fault) = false
is_of_script (FileNotRead path) = false
is_of_script (Field blob path kind) = true
is_of_script (NoEvent blob) = true
is_of_script (UnknownEvent blob) = true
is_of_script FolderFailed = false
is_of_script InputFailed = true
is_of_script DiskFailed = false
is_of_script OutputFailed = false
is_of_script NoMemory = true
is_of_script BudgetSpent = false
is_of_script (Damaged at) = false
is_of_script TooLong = true
is_of_script (TooManyVariables count) = false
is_of_script StoreFull = false

-- how a run ends whose events came to this: the first of them that couldn't be applied, or whose line couldn't be put, ended it
abbrev pub halt_cause : Halt → Cause
halt_cause halt.OutputFailed = OutputFailed
halt_cause halt.FolderFailed = FolderFailed
halt_cause halt.StoreFailed = DiskFailed
halt_cause (halt.Damaged at) = Damaged at
halt_cause halt.Full = StoreFull
halt_cause halt.Memory = NoMemory

abbrev pub run_cause : RunFault → Cause
run_cause (run.Damaged at) = Damaged at
run_cause run.Failed = DiskFailed
run_cause run.Memory = NoMemory
run_cause (run.Halted found) = halt_cause found

abbrev pub run_end : Result Unit RunFault → Option Cause
run_end (Ok done) = None
run_end (Err found) = Some (run_cause found)

-- A run stops before the file is opened, and leaves everything as it was. Or it opens the file and applies all events of the input: the lines that are put and the writes that are left in the file belong together, however it ends.
pub data RunRuns (old new : World) : Option Cause → Type 0 where
  Stops : (script : Result (List Event) Cause) (cause : Cause)
      → HoldsScript old.left script → Gives is_free script (Err cause) → is_of_script cause ≡ true
      → IsStill old new → RunRuns old new (Some cause)
  Goes : (events : List Event) (found left : Result History ℕ) (ended : Result Unit RunFault)
      → HoldsScript old.left (Ok events) → Opens old.tells old.content found → Opens new.tells new.content left
      → FileRuns old.tells old.files found events left old.out new.out ended → RunRuns old new (run_end ended)
