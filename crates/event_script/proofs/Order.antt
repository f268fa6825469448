-- What a text's answer says of its blobs one by one.
use Rattle.std.proofs.Common.{Bool, true, false, ◌≡◌, ◌<◌, ◌+◌, ◌-◌, ◌==◌, ℕ, zero, suc, List, [], ◌∷◌, Option, Some, None, Result, Ok, Err, length, take, drop, slice_get, if◌then◌else◌, inl, inr, refl, sym, ap, subst, ◌∙◌, arith}
use Rattle.serde_json.specs.Data.{Data}
use Rattle.catalog_stream.specs.Depth.{extent}
use Rattle.catalog_stream.specs.declared.scan.Extent.{Extent}
use Rattle.catalog_stream.specs.declared.scan.Extent.TheVariants.{Ends, Deep, Open}
use Rattle.catalog_stream.specs.Stream.{BlobView, blobs, blobs_within, and_on, object_of, object_or_syntax, by_extent, blob_at, next, start_after}
use Rattle.catalog_stream.specs.declared.blobs.StreamFault.{StreamFault}
use Rattle.catalog_stream.specs.declared.blobs.StreamFault.TheVariants.{NotObject}
use Rattle.json_fields.specs.Faults.{and_then}
use Rattle.event_script.specs.declared.events.Event.{Event}
use Rattle.event_script.specs.declared.reading.EventFault.{EventFault}
use Rattle.event_script.specs.Script.{event_of, bytes_of, stream_fault, events_from, unless_broken, events_of}
use Rattle.event_script.specs.Order.{Answers, AreEvents, AreAllEvents, IsFirstFault, IsDecided, HaveOwnBytes}
use Rattle.event_script.proofs.Ranges.{inner_fault, one_and_more, whole_stream}

-- the blob at this place of a list whose first one has the number `first`
abbrev Here : ℕ → List ℕ → List BlobView → ℕ → Result Event EventFault → Type 0
Here first text left place answer = (blob : BlobView) × (slice_get left place ≡ Some blob) × (event_of (first + place) blob.value (bytes_of text blob) ≡ answer)

-- one place further in a list with one blob more
further : (first : ℕ) (text : List ℕ) (blob : BlobView) (left : List BlobView) (place : ℕ) (answer : Result Event EventFault) → Here (first + 1) text left place answer → Here first text (blob ∷ left) (suc place) answer
further first text blob left place answer h =
    let e : first + suc place ≡ first + 1 + place = omega arith in
    (h.0, h.1, ap (λ n. event_of n h.0.value (bytes_of text h.0)) e ∙ h.2)

here_first : (first : ℕ) (text : List ℕ) (blob : BlobView) (left : List BlobView) (answer : Result Event EventFault) → event_of first blob.value (bytes_of text blob) ≡ answer → Here first text (blob ∷ left) 0 answer
here_first first text blob left answer h =
    let e : first + 0 ≡ first = omega arith in
    (blob, refl, ap (λ n. event_of n blob.value (bytes_of text blob)) e ∙ h)

-- all events of a list of blobs
counted : (first : ℕ) (text : List ℕ) (left : List BlobView) (events : List Event) → events_from first text left ≡ Ok events → length events ≡ length left
counted first text [] events e =
    let same : [] ≡ events = cc e in
    ap length (sym same)
counted first text (blob ∷ left) events e =
    let p = one_and_more first text blob left events e in
    ap length (sym p.4) ∙ ap suc (counted (first + 1) text left p.1 p.3)

abbrev Eaches : ℕ → List ℕ → List BlobView → List Event → Type 0
Eaches first text left events = (place : ℕ) (found : Event) → slice_get events place ≡ Some found → Here first text left place (Ok found)

each_at : (first : ℕ) (text : List ℕ) (blob : BlobView) (left : List BlobView) (head : Event) (more : List Event) (place : ℕ) (found : Event) → Eaches (first + 1) text left more
    → event_of first blob.value (bytes_of text blob) ≡ Ok head → slice_get (head ∷ more) place ≡ Some found → Here first text (blob ∷ left) place (Ok found)
each_at first text blob left head more zero found h f s =
    let same : head ≡ found = cc s in
    here_first first text blob left (Ok found) (f ∙ ap Ok same)
each_at first text blob left head more (suc place) found h f s = further first text blob left place (Ok found) (h place found s)

each_here : (first : ℕ) (text : List ℕ) (left : List BlobView) (events : List Event) → events_from first text left ≡ Ok events → Eaches first text left events
each_here first text [] events e = λ place found s.
    let same : [] ≡ events = cc e in
    let none : None ≡ Some found = ap (λ (events : List Event). slice_get events place) same ∙ s in
    cc none
each_here first text (blob ∷ left) events e = λ place found s.
    let p = one_and_more first text blob left events e in
    each_at first text blob left p.0 p.1 place found (each_here (first + 1) text left p.1 p.3) p.2 (ap (λ (events : List Event). slice_get events place) p.4 ∙ s)

-- each blob before a place is an event
abbrev Events : ℕ → List ℕ → List BlobView → ℕ → Type 0
Events first text left count = (place : ℕ) → place < count → (found : Event) × Here first text left place (Ok found)

one_before : (first : ℕ) (text : List ℕ) (blob : BlobView) (left : List BlobView) (head : Event) (count : ℕ) → Events (first + 1) text left count
    → event_of first blob.value (bytes_of text blob) ≡ Ok head → (place : ℕ) → place < suc count → (found : Event) × Here first text (blob ∷ left) place (Ok found)
one_before first text blob left head count g f zero h = (head, here_first first text blob left (Ok head) f)
one_before first text blob left head count g f (suc place) h =
    let later = g place (omega (arith, h)) in
    (later.0, further first text blob left place (Ok later.0) later.1)

none_before : (first : ℕ) (text : List ℕ) (left : List BlobView) → Events first text left 0
none_before first text left = λ place h. absurd (omega (arith, h))

-- each blob of a list that gives events is one
are_events : (first : ℕ) (text : List ℕ) (left : List BlobView) (events : List Event) → events_from first text left ≡ Ok events → Events first text left (length left)
are_events first text [] events e = none_before first text []
are_events first text (blob ∷ left) events e =
    let p = one_and_more first text blob left events e in
    one_before first text blob left p.0 (length left) (are_events (first + 1) text left p.1 p.3) p.2

-- the first fault of a list of blobs
abbrev FirstOf : ℕ → List ℕ → List BlobView → EventFault → Type 0
FirstOf first text left fault = (place : ℕ) × Here first text left place (Err fault) × Events first text left place

by_answer : (first : ℕ) (text : List ℕ) (blob : BlobView) (left : List BlobView) (fault : EventFault) (answer : Result Event EventFault) → event_of first blob.value (bytes_of text blob) ≡ answer
    → (others : Result (List Event) EventFault) → (others ≡ Err fault → FirstOf (first + 1) text left fault)
    → and_then answer (λ found. and_then others (λ more. Ok (found ∷ more))) ≡ Err fault → FirstOf first text (blob ∷ left) fault
by_answer first text blob left fault (Err other) f others g e = (0, here_first first text blob left (Err fault) (f ∙ ap Err (inner_fault other fault e)), none_before first text (blob ∷ left))
by_answer first text blob left fault (Ok head) f (Ok more) g e = cc e
by_answer first text blob left fault (Ok head) f (Err other) g e =
    let later = g (ap Err (inner_fault other fault e)) in
    (suc later.0, further first text blob left later.0 (Err fault) later.1, one_before first text blob left head later.0 later.2 f)

first_fault : (first : ℕ) (text : List ℕ) (left : List BlobView) (fault : EventFault) → events_from first text left ≡ Err fault → FirstOf first text left fault
first_fault first text [] fault e = cc e
first_fault first text (blob ∷ left) fault e =
    by_answer first text blob left fault (event_of first blob.value (bytes_of text blob)) refl (events_from (first + 1) text left) (first_fault (first + 1) text left fault) e

-- blobs numbered from 0
from_zero : (text : List ℕ) (place : ℕ) (answer : Result Event EventFault) → Here 0 text (blobs text).blobs place answer → Answers text place answer
from_zero text place answer h =
    let e : place ≡ 0 + place = omega arith in
    (h.0, h.1, ap (λ n. event_of n h.0.value (bytes_of text h.0)) e ∙ h.2)

all_from_zero : (text : List ℕ) (count : ℕ) → Events 0 text (blobs text).blobs count → AreEvents text count
all_from_zero text count h = λ place below.
    let found = h place below in
    (found.0, from_zero text place (Ok found.0) found.1)

broken_stream : (found : List Event) (end : Option StreamFault) (fault : EventFault) → unless_broken found end ≡ Err fault → (broken : StreamFault) × (end ≡ Some broken) × (fault ≡ stream_fault broken)
broken_stream found None fault e = cc e
broken_stream found (Some broken) fault e = (broken, refl, cc e)

all_events : (text : List ℕ) (events : List Event) → events_of text ≡ Ok events → AreAllEvents text events
all_events text events e =
    let read = whole_stream (events_from 0 text (blobs text).blobs) (blobs text).fault events e in
    record {
      whole = read.1;
      count = counted 0 text (blobs text).blobs events read.0;
      each = λ place found s. from_zero text place (Ok found) (each_here 0 text (blobs text).blobs events read.0 place found s);
    }

first_of_all : (text : List ℕ) (fault : EventFault) (read : Result (List Event) EventFault) → events_from 0 text (blobs text).blobs ≡ read → and_then read (λ found. unless_broken found (blobs text).fault) ≡ Err fault → IsFirstFault text fault
first_of_all text fault (Ok found) h e =
    let broken = broken_stream found (blobs text).fault fault e in
    inr (all_from_zero text (length (blobs text).blobs) (are_events 0 text (blobs text).blobs found h), broken.0, broken.1, broken.2)
first_of_all text fault (Err other) h e =
    let first = first_fault 0 text (blobs text).blobs fault (h ∙ ap Err (inner_fault other fault e)) in
    inl (first.0, from_zero text first.0 (Err fault) first.1, all_from_zero text first.0 first.2)

decided : (text : List ℕ) (answer : Result (List Event) EventFault) → events_of text ≡ answer → IsDecided text answer
decided text (Ok events) e = all_events text events e
decided text (Err fault) e = first_of_all text fault (events_from 0 text (blobs text).blobs) refl e

pub is_decided : (text : List ℕ) → IsDecided text (events_of text)
is_decided text = decided text (events_of text) refl

-- ---- own bytes

-- the blob's bytes, taken from the text, are the object
abbrev Own : List ℕ → BlobView → Type 0
Own text blob = object_of (bytes_of text blob) ≡ Some blob.value

own_found : (text : List ℕ) (start count : ℕ) (value : Option Data) (blob : BlobView) → object_of (take count (drop start text)) ≡ value → object_or_syntax start (start + count) value ≡ Ok (Some blob) → Own text blob
own_found text start count None blob h e = cc e
own_found text start count (Some value) blob h e =
    let found : BlobView = record { value = value; start = start; end = start + count } in
    let same : found ≡ blob = cc e in
    let size : start + count - start ≡ count = omega arith in
    subst (λ (blob : BlobView). Own text blob) same (ap (λ n. object_of (take n (drop start text))) size ∙ h)

own_extent : (text : List ℕ) (start : ℕ) (found : Extent) (blob : BlobView) → by_extent text start (drop start text) found ≡ Ok (Some blob) → Own text blob
own_extent text start (Ends count) blob e = own_found text start count _ blob refl e
own_extent text start (Deep count) blob e = cc e
own_extent text start Open blob e = cc e

own_brace : (is_brace : Bool) (text : List ℕ) (start : ℕ) (found : Extent) (blob : BlobView) → (if is_brace then by_extent text start (drop start text) found else Err (NotObject start)) ≡ Ok (Some blob) → Own text blob
own_brace true text start found blob e = own_extent text start found blob e
own_brace false text start found blob e = cc e

own_rest : (text : List ℕ) (start : ℕ) (rest : List ℕ) (blob : BlobView) → drop start text ≡ rest → blob_at text start rest ≡ Ok (Some blob) → Own text blob
own_rest text start [] blob h e = cc e
own_rest text start (byte ∷ bytes) blob h e =
    own_brace (byte == 123) text start (extent (byte ∷ bytes)) blob
    (ap (λ rest. if byte == 123 then by_extent text start rest (extent (byte ∷ bytes)) else Err (NotObject start)) h ∙ e)

own_next : (text : List ℕ) (at : ℕ) (blob : BlobView) → next text at ≡ Ok (Some blob) → Own text blob
own_next text at blob e = own_rest text (start_after text at) (drop (start_after text at) text) blob refl e

abbrev OwnWithin : ℕ → List ℕ → Type 0
OwnWithin steps text = (at : ℕ) (place : ℕ) (blob : BlobView) → slice_get (blobs_within steps text at).blobs place ≡ Some blob → Own text blob

own_turn : (steps : ℕ) (text : List ℕ) (at : ℕ) (found : Result (Option BlobView) StreamFault) (place : ℕ) (blob : BlobView) → OwnWithin steps text
    → next text at ≡ found → slice_get (and_on (blobs_within steps text) found).blobs place ≡ Some blob → Own text blob
own_turn steps text at (Err fault) place blob g f s = cc s
own_turn steps text at (Ok None) place blob g f s = cc s
own_turn steps text at (Ok (Some other)) zero blob g f s =
    let same : other ≡ blob = cc s in
    subst (λ (blob : BlobView). Own text blob) same (own_next text at other f)
own_turn steps text at (Ok (Some other)) (suc place) blob g f s = g other.end place blob s

own_within : (steps : ℕ) (text : List ℕ) → OwnWithin steps text
unfolding blobs_within
own_within zero text = λ at place blob s. cc s
own_within (suc steps) text = λ at place blob s. own_turn steps text at (next text at) place blob (own_within steps text) refl s

pub own_bytes : (text : List ℕ) → HaveOwnBytes text
own_bytes text = λ place blob s. own_within (suc (length text - 0)) text 0 place blob s
