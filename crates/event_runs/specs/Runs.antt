-- A run: the events of a list are applied to a history, one after the other, and each has its line.
use Rattle.std.specs.Prelude.{◌≡◌, ℕ, Bool, true, false, List, [], ◌∷◌, ◌++◌, Option, Some, None, Result, Ok, Err}
use Rattle.std.specs.Io.KnownBytes.{Appends}
use Rattle.olm_io.specs.Outside.{AppendsFront}
use Rattle.cluster_objects.specs.declared.objects.Write.{Write}
use Rattle.cluster_history.specs.History.{History, After, position}
use Rattle.object_store.specs.Puts.{has_room}
use Rattle.event_script.specs.declared.events.Event.{Event}
use Rattle.event_script.specs.declared.events.Event.TheVariants as event
use Rattle.user_events.specs.declared.refusals.Refusal.TheVariants.{Reason}
use Rattle.folder_events.specs.Events.{Asks, HasKey, is_of_folder}
use Rattle.event_runs.specs.Lines.{done_line, refused_line, restart_line}
use Rattle.event_runs.specs.declared.halts.Halt.{Halt}
use Rattle.event_runs.specs.declared.halts.Halt.TheVariants as halt

-- what a folder holds, where it tells: paths and bytes
abbrev pub Files : Type 0
Files = Option (List (List ℕ × List ℕ))

-- What a restart leaves: the history, where the store tells what it holds. Else what it reads then may be another.
abbrev pub IsReopened : Bool → History → History → Type 0
IsReopened tells h new = tells ≡ true → new ≡ h

-- An event goes by: after a history, with the history that it leaves and its line. A user's event appends the write that it asks for, where the store has room for it, or is refused with its reason.
pub data Passes (tells : Bool) (fits : History → Write → Bool) (limit : ℕ) (files : Files) (h : History) : Event → History → List ℕ → Type 0 where
  Written : (e : Event) (w : Write) → Asks files h e (Ok w) → has_room (fits h w) limit h ≡ true
      → Passes tells fits limit files h e (After w h) (done_line e w.key (position (After w h)))
  Refused : (e : Event) (reason : List ℕ) → Asks files h e (Err (Reason reason)) → Passes tells fits limit files h e h (refused_line e reason)
  Restarted : (new : History) → IsReopened tells h new → Passes tells fits limit files h event.Restart new restart_line

-- All events of a list go by, one after the other: the history before and afterwards, and the lines.
pub data AllPass (tells : Bool) (fits : History → Write → Bool) (limit : ℕ) (files : Files) : History → List Event → History → List ℕ → Type 0 where
  NoEvents : (h : History) → AllPass tells fits limit files h [] h []
  Next : (h mid new : History) (e : Event) (es : List Event) (line lines : List ℕ)
      → Passes tells fits limit files h e mid line → AllPass tells fits limit files mid es new lines
      → AllPass tells fits limit files h (e ∷ es) new (line ++ lines)

-- What an event may leave that has no line: the history as it was, or with the write that the event asks for, or what a restart leaves.
pub data MayLeave (tells : Bool) (fits : History → Write → Bool) (limit : ℕ) (files : Files) (h : History) : Event → History → Type 0 where
  Nothing : (e : Event) → MayLeave tells fits limit files h e h
  Wrote : (e : Event) (w : Write) → Asks files h e (Ok w) → has_room (fits h w) limit h ≡ true → MayLeave tells fits limit files h e (After w h)
  Reopened : (new : History) → IsReopened tells h new → MayLeave tells fits limit files h event.Restart new

-- Where a run ends at an event: the history before it and afterwards, and what the output held before it and holds now. The event's line isn't put, and where the output fails a front of it is. A call of the store that failed, and want of memory, leave open whether the write stands. Damage isn't found where the store tells what it holds.
abbrev pub Halts : Bool → (History → Write → Bool) → ℕ → Files → History → Event → History → Option (List ℕ) → Option (List ℕ) → Halt → Type 0
Halts tells fits limit files h e new before now halt.OutputFailed = (line : List ℕ) × Passes tells fits limit files h e new line × AppendsFront before now line
Halts tells fits limit files h e new before now halt.FolderFailed = (is_of_folder e ≡ true) × (new ≡ h) × Appends before now []
Halts tells fits limit files h e new before now halt.StoreFailed = HasKey e × MayLeave tells fits limit files h e new × Appends before now []
Halts tells fits limit files h e new before now (halt.Damaged at) = (tells ≡ false) × (e ≡ event.Restart) × Appends before now []
Halts tells fits limit files h e new before now halt.Full =
    (w : Write) × Asks files h e (Ok w) × (has_room (fits h w) limit h ≡ false) × (new ≡ h) × Appends before now []
Halts tells fits limit files h e new before now halt.Memory = MayLeave tells fits limit files h e new × Appends before now []

-- What one event of a run comes to: it goes by and its line is put, or the run ends at it.
abbrev pub Steps : Bool → (History → Write → Bool) → ℕ → Files → History → Event → History → Option (List ℕ) → Option (List ℕ) → Result Unit Halt → Type 0
Steps tells fits limit files h e new before now (Ok done) = (line : List ℕ) × Passes tells fits limit files h e new line × Appends before now line
Steps tells fits limit files h e new before now (Err end) = Halts tells fits limit files h e new before now end

-- The event of a list at which a run ends: those before it have gone by with these lines, and those behind it aren't applied.
pub record HaltsAmong (tells : Bool) (fits : History → Write → Bool) (limit : ℕ) (files : Files) (h : History) (es : List Event) (new : History) (before now : Option (List ℕ)) (end : Halt) : Type 0 where
  pub earlier : List Event
  pub at : Event
  pub later : List Event
  pub mid : History
  pub lines : List ℕ
  pub between : Option (List ℕ)
  pub split : es ≡ earlier ++ at ∷ later
  pub passed : AllPass tells fits limit files h earlier mid lines
  pub printed : Appends before between lines
  pub halted : Halts tells fits limit files mid at new between now end

-- A run of the events, by how it ended.
abbrev pub Runs : Bool → (History → Write → Bool) → ℕ → Files → History → List Event → History → Option (List ℕ) → Option (List ℕ) → Result Unit Halt → Type 0
Runs tells fits limit files h es new before now (Ok done) = (lines : List ℕ) × AllPass tells fits limit files h es new lines × Appends before now lines
Runs tells fits limit files h es new before now (Err end) = HaltsAmong tells fits limit files h es new before now end

-- a call of the store, the folder or the output failed
abbrev pub store_failed : Result Unit Halt → Bool
store_failed (Ok done) = false
store_failed (Err halt.OutputFailed) = false
store_failed (Err halt.FolderFailed) = false
store_failed (Err halt.StoreFailed) = true
store_failed (Err (halt.Damaged at)) = false
store_failed (Err halt.Full) = false
store_failed (Err halt.Memory) = false

abbrev pub folder_failed : Result Unit Halt → Bool
folder_failed (Ok done) = false
folder_failed (Err halt.OutputFailed) = false
folder_failed (Err halt.FolderFailed) = true
folder_failed (Err halt.StoreFailed) = false
folder_failed (Err (halt.Damaged at)) = false
folder_failed (Err halt.Full) = false
folder_failed (Err halt.Memory) = false

abbrev pub output_failed : Result Unit Halt → Bool
output_failed (Ok done) = false
output_failed (Err halt.OutputFailed) = true
output_failed (Err halt.FolderFailed) = false
output_failed (Err halt.StoreFailed) = false
output_failed (Err (halt.Damaged at)) = false
output_failed (Err halt.Full) = false
output_failed (Err halt.Memory) = false

-- A line is put whole, or a front of it where the output fails; want of memory puts nothing.
abbrev pub Prints : List ℕ → Option (List ℕ) → Option (List ℕ) → Result Unit Halt → Type 0
Prints line before now (Ok done) = Appends before now line
Prints line before now (Err halt.OutputFailed) = AppendsFront before now line
Prints line before now (Err halt.FolderFailed) = ⊥
Prints line before now (Err halt.StoreFailed) = ⊥
Prints line before now (Err (halt.Damaged at)) = ⊥
Prints line before now (Err halt.Full) = ⊥
Prints line before now (Err halt.Memory) = Appends before now []
