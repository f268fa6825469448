-- What the input gives of events, and the runs of `run`.
use Rattle.std.proofs.Common.{◌≡◌, ◌∙◌, ℕ, List, [], Bool, true, false, refl, sym, ap, subst, Option, Some, Result, Ok, Err}
use Rattle.cluster_history.specs.History.{History}
use Rattle.std.specs.List.{list_any}
use Rattle.event_script.specs.Script.{events_of}
use Rattle.event_script.specs.declared.events.Event.{Event}
use Rattle.file_commands.specs.FileRuns.{FileRuns}
use Rattle.file_commands.specs.Opens.{Opens}
use Rattle.file_commands.specs.declared.faults.RunFault.{RunFault}
use Rattle.folder_events.specs.Events.{is_of_folder}
use Rattle.json_fields.specs.Faults.{and_then}
use Rattle.olm_base.specs.Outcome.{Gives}
use Rattle.olm_io.specs.Outside.{IsTold}
use Rattle.olm_cli.specs.declared.causes.Cause.{Cause}
use Rattle.olm_cli.specs.Causes.{is_free}
use Rattle.olm_cli.specs.Places.{within_limit}
use Rattle.olm_cli.specs.Running.{AsksNoCatalog, HoldsScript, RunRuns, Stops, Goes, asks_catalog, is_of_script, or_event_cause, run_end, script_of}
use Rattle.olm_cli.specs.Worlds.{World, IsStill}

abbrev after_reading : Result (List ℕ) Cause → Result (List Event) Cause
after_reading read = and_then read (λ input. or_event_cause (events_of input))

-- the input was read, and then its events
pub script_gives : (left : Option (List ℕ)) (text input : List ℕ) (result : Result (List Event) Cause)
    → IsTold left text → within_limit text ≡ Ok input → Gives is_free (or_event_cause (events_of input)) result
    → (script : Result (List Event) Cause) × HoldsScript left script × Gives is_free script result
script_gives left text input result told e given =
    (script_of text, (text, told, refl), subst (λ read. Gives is_free (after_reading read) result) (sym e) given)

-- the input wasn't read
pub no_script_gives : (left : Option (List ℕ)) (text : List ℕ) (cause : Cause)
    → IsTold left text → (is_free cause ≡ false → within_limit text ≡ Err cause)
    → (script : Result (List Event) Cause) × HoldsScript left script × Gives is_free script (Err cause)
no_script_gives left text cause told given = (script_of text, (text, told, refl), λ bound. ap after_reading (given bound))

-- a run that stops before the file is opened
pub run_stops : (old new : World) (cause : Cause)
    → (script : Result (List Event) Cause) × HoldsScript old.left script × Gives is_free script (Err cause)
    → is_of_script cause ≡ true → IsStill old new → RunRuns old new (Some cause)
run_stops old new cause held kind still = Stops held.0 cause held.1 held.2 kind still

-- a run that opens the file
pub run_goes : (old new : World) (events : List Event) (end : Option Cause) (script : Result (List Event) Cause) (found left : Result History ℕ) (ended : Result Unit RunFault)
    → HoldsScript old.left script → script ≡ Ok events → Opens old.tells old.content found → Opens new.tells new.content left
    → FileRuns old.tells old.files found events left old.out new.out ended → end ≡ run_end ended → RunRuns old new end
run_goes old new events end script found left ended held e opens leaves runs same =
    subst (λ e. RunRuns old new e) (sym same) (Goes events found left ended (subst (λ s. HoldsScript old.left s) e held) opens leaves runs)

-- the events that were read, where the input asks for no `catalog` event
pub none_asked : (left : Option (List ℕ)) (events : List Event)
    → (script : Result (List Event) Cause) × HoldsScript left script × Gives is_free script (Ok events) → AsksNoCatalog left → list_any is_of_folder events ≡ false
none_asked left events (script, (text, told, same), given) none =
    ap asks_catalog (sym given) ∙ ap asks_catalog same ∙ none text told
