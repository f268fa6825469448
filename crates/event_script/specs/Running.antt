-- The events that a run applies by now: those of workers are none of them.
use Rattle.std.specs.Prelude.{◌≡◌, ⊤, Bool, true, false, Option, None, Some}
use Rattle.event_script.specs.declared.events.Event.{Event}
use Rattle.event_script.specs.declared.events.Event.TheVariants as event
use Rattle.event_script.specs.declared.events.Word.{Word}
use Rattle.event_script.specs.declared.events.Word.TheVariants as word

-- This is the one list of them. A word that names no event runs nothing.
abbrev pub runs_now : Word → Bool
runs_now word.Delete = true
runs_now word.Approve = true
runs_now word.Catalog = true
runs_now word.Ready = true
runs_now word.Retry = true
runs_now word.Worker = false
runs_now word.Look = false
runs_now word.Act = false
runs_now word.Settle = false
runs_now word.Restart = true
runs_now word.Release = true
runs_now word.Lease = false
runs_now word.Other = false

-- the word by which a script names an event; it names no apply
abbrev pub word_for : Event → Option Word
word_for (event.Apply body) = None
word_for (event.Delete group kind namespace name) = Some word.Delete
word_for (event.Approve namespace name) = Some word.Approve
word_for (event.Catalog namespace name path priority) = Some word.Catalog
word_for (event.Ready namespace name state) = Some word.Ready
word_for (event.Retry namespace budget) = Some word.Retry
word_for (event.Worker role namespace) = Some word.Worker
word_for (event.Look worker) = Some word.Look
word_for (event.Act worker) = Some word.Act
word_for (event.Settle namespace turns) = Some word.Settle
word_for event.Restart = Some word.Restart
word_for (event.Release namespace) = Some word.Release
word_for (event.Lease worker now keep) = Some word.Lease

abbrev pub MayRun : Option Word → Type 0
MayRun None = ⊤
MayRun (Some named) = runs_now named ≡ true

-- a run applies this event
abbrev pub RunsNow : Event → Type 0
RunsNow event = MayRun (word_for event)
