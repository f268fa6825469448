-- What the answer of a text says of its blobs one by one.
use Rattle.std.specs.Prelude.{◌≡◌, ◌<◌, ◌⊎◌, ℕ, List, length, slice_get, Some, None, Result, Ok, Err}
use Rattle.catalog_stream.specs.Stream.{BlobView, blobs, object_of}
use Rattle.catalog_stream.specs.declared.blobs.StreamFault.{StreamFault}
use Rattle.event_script.specs.declared.events.Event.{Event}
use Rattle.event_script.specs.declared.reading.EventFault.{EventFault}
use Rattle.event_script.specs.Script.{event_of, bytes_of, stream_fault}

-- the text's blob of this number has this answer
abbrev pub Answers : List ℕ → ℕ → Result Event EventFault → Type 0
Answers text number answer = (blob : BlobView) × (slice_get (blobs text).blobs number ≡ Some blob) × (event_of number blob.value (bytes_of text blob) ≡ answer)

-- each blob before this number is an event
abbrev pub AreEvents : List ℕ → ℕ → Type 0
AreEvents text count = (number : ℕ) → number < count → (found : Event) × Answers text number (Ok found)

-- Events are the answer exactly of a text without a fault: one for each blob, in their order.
pub record AreAllEvents (text : List ℕ) (events : List Event) : Type 0 where
  pub whole : (blobs text).fault ≡ None
  pub count : length events ≡ length (blobs text).blobs
  pub each : (number : ℕ) (found : Event) → slice_get events number ≡ Some found → Answers text number (Ok found)

-- a blob has the fault, and each blob before it is an event
abbrev pub IsOfBlob : List ℕ → EventFault → Type 0
IsOfBlob text fault = (number : ℕ) × Answers text number (Err fault) × AreEvents text number

-- all blobs are events, and the fault is the one that ends them
abbrev pub IsOfStream : List ℕ → EventFault → Type 0
IsOfStream text fault = AreEvents text (length (blobs text).blobs) × (broken : StreamFault) × ((blobs text).fault ≡ Some broken) × (fault ≡ stream_fault broken)

abbrev pub IsFirstFault : List ℕ → EventFault → Type 0
IsFirstFault text fault = IsOfBlob text fault ⊎ IsOfStream text fault

-- A text's answer is all its events, or its first fault.
abbrev pub IsDecided : List ℕ → Result (List Event) EventFault → Type 0
IsDecided text (Ok events) = AreAllEvents text events
IsDecided text (Err fault) = IsFirstFault text fault

-- the bytes of each blob are themselves the JSON object that it is
abbrev pub HaveOwnBytes : List ℕ → Type 0
HaveOwnBytes text = (number : ℕ) (blob : BlobView) → slice_get (blobs text).blobs number ≡ Some blob → object_of (bytes_of text blob) ≡ Some blob.value
