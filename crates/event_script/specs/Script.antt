-- The events that a text asks for.
use Rattle.std.specs.Prelude.{ℕ, ◌+◌, Bool, true, false, if◌then◌else◌, List, [], ◌∷◌, Option, Some, None, Result, Ok, Err}
use Rattle.std.specs.List.{slice_range}
use Rattle.serde_json.specs.Data.{Data}
use Rattle.catalog_stream.specs.Stream.{Stream, BlobView, blobs}
use Rattle.catalog_stream.specs.declared.blobs.StreamFault.{StreamFault}
use Rattle.json_fields.specs.declared.fault.Fault.{Fault}
use Rattle.json_fields.specs.Faults.{and_then}
use Rattle.event_script.specs.declared.events.Event.{Event}
use Rattle.event_script.specs.declared.events.Event.TheVariants as event
use Rattle.event_script.specs.declared.events.Word.{Word}
use Rattle.event_script.specs.declared.events.Word.TheVariants as word
use Rattle.event_script.specs.declared.reading.EventFault.{EventFault}
use Rattle.event_script.specs.declared.reading.EventFault.TheVariants.{Stream as InStream, Field, NoEvent, UnknownEvent, Memory}
use Rattle.event_script.specs.Running.{runs_now}
use Rattle.event_script.specs.Events.{delete_event, approve_event, catalog_event, ready_event, retry_event, worker_event, look_event, act_event, settle_event, release_event, lease_event, event_word, has_kind}

-- want of memory alone is free
abbrev pub is_free : EventFault → Bool
is_free (InStream fault) = false
is_free (Field number path kind) = false
is_free (NoEvent number) = false
is_free (UnknownEvent number) = false
is_free Memory = true

-- a fault of a field in the blob of this number, and a fault of the stream
abbrev pub field_fault : ℕ → Fault → EventFault
field_fault number fault = Field number fault.path fault.kind

abbrev pub stream_fault : StreamFault → EventFault
stream_fault fault = InStream fault

abbrev pub numbered : ℕ → Result Event Fault → Result Event EventFault
numbered number (Ok found) = Ok found
numbered number (Err fault) = Err (field_fault number fault)

-- a blob whose event is named
abbrev pub named_event : ℕ → Word → Data → Result Event EventFault
named_event number word.Delete blob = numbered number (delete_event blob)
named_event number word.Approve blob = numbered number (approve_event blob)
named_event number word.Catalog blob = numbered number (catalog_event blob)
named_event number word.Ready blob = numbered number (ready_event blob)
named_event number word.Retry blob = numbered number (retry_event blob)
named_event number word.Worker blob = numbered number (worker_event blob)
named_event number word.Look blob = numbered number (look_event blob)
named_event number word.Act blob = numbered number (act_event blob)
named_event number word.Settle blob = numbered number (settle_event blob)
named_event number word.Restart blob = Ok event.Restart
named_event number word.Release blob = numbered number (release_event blob)
named_event number word.Lease blob = numbered number (lease_event blob)
named_event number word.Other blob = Err (UnknownEvent number)

-- the same while some events don't run: a script that names one of them names none
abbrev pub run_named : ℕ → Word → Data → Result Event EventFault
run_named number named blob = if runs_now named then named_event number named blob else Err (UnknownEvent number)

-- a blob whose event is not named is the object to be applied, by its own bytes
abbrev pub unnamed_event : ℕ → Data → List ℕ → Result Event EventFault
unnamed_event number blob bytes = if has_kind blob then Ok (event.Apply bytes) else Err (NoEvent number)

abbrev pub by_word : ℕ → Data → List ℕ → Option Word → Result Event EventFault
by_word number blob bytes None = unnamed_event number blob bytes
by_word number blob bytes (Some found) = run_named number found blob

-- The event of the blob of this number, which is this value and has these bytes.
abbrev pub event_of : ℕ → Data → List ℕ → Result Event EventFault
event_of number blob bytes = by_word number blob bytes (event_word blob)

-- a blob's own bytes, from its first to its last
abbrev pub bytes_of : List ℕ → BlobView → List ℕ
bytes_of text blob = slice_range text blob.start blob.end

-- The events of some blobs of a text, of which the first one has this number: one for each, in their order. Or the fault of the first blob that has one.
abbrev pub events_from : ℕ → List ℕ → List BlobView → Result (List Event) EventFault
events_from first text [] = Ok []
events_from first text (blob ∷ blobs) =
    and_then (event_of first blob.value (bytes_of text blob)) (λ found.
    and_then (events_from (first + 1) text blobs) (λ more.
    Ok (found ∷ more)))

abbrev pub unless_broken : {T : Type 0} → T → Option StreamFault → Result T EventFault
unless_broken value None = Ok value
unless_broken value (Some fault) = Err (stream_fault fault)

-- a fault in a blob comes before the fault that ends the stream
abbrev pub stream_events : ℕ → List ℕ → Stream → Result (List Event) EventFault
stream_events first text stream = and_then (events_from first text stream.blobs) (λ found. unless_broken found stream.fault)

-- The events of a text, whose blobs are numbered from 0; or the first fault in the order of the text.
abbrev pub events_of : List ℕ → Result (List Event) EventFault
events_of text = stream_events 0 text (blobs text)
