-- A script that is read blob by blob.
use Rattle.std.proofs.Common.{Bool, true, false, ◌≡◌, ◌+◌, ◌≤◌, ◌<◌, ◌==◌, ℕ, List, [], ◌∷◌, ◌++◌, Option, Some, None, Result, Ok, Err, drop, length, if◌then◌else◌, refl, sym, ap, subst, ◌∙◌, append_assoc, append-nil, arith, length-append}
use Rattle.serde_json.specs.Data.{Data}
use Rattle.catalog_stream.specs.Depth.{extent}
use Rattle.catalog_stream.specs.declared.scan.Extent.{Extent}
use Rattle.catalog_stream.specs.declared.scan.Extent.TheVariants.{Ends, Deep, Open}
use Rattle.catalog_stream.specs.Reading.{Reading}
use Rattle.catalog_stream.specs.Stream.{Stream, BlobView, before, blobs_from, object_or_syntax, by_extent, blob_at, next, start_after}
use Rattle.catalog_stream.specs.declared.blobs.StreamFault.{StreamFault}
use Rattle.catalog_stream.specs.declared.blobs.StreamFault.TheVariants.{NotObject}
use Rattle.json_fields.specs.Faults.{and_then}
use Rattle.event_script.specs.declared.events.Event.{Event}
use Rattle.event_script.specs.declared.reading.EventFault.{EventFault}
use Rattle.event_script.specs.Script.{event_of, bytes_of, events_from, unless_broken, stream_events, events_of, stream_fault}

-- ---- a blob's bytes are a part of the text

found_ordered : (start end : ℕ) (value : Option Data) (blob : BlobView) → start ≤ end → object_or_syntax start end value ≡ Ok (Some blob) → blob.start ≤ blob.end
found_ordered start end None blob h e = cc e
found_ordered start end (Some value) blob h e =
    let found : BlobView = record { value = value; start = start; end = end } in
    let same : found ≡ blob = cc e in
    subst (λ (blob : BlobView). blob.start ≤ blob.end) same h

extent_ordered : (text : List ℕ) (start : ℕ) (rest : List ℕ) (found : Extent) (blob : BlobView) → by_extent text start rest found ≡ Ok (Some blob) → blob.start ≤ blob.end
extent_ordered text start rest (Ends count) blob e = found_ordered start (start + count) _ blob (omega arith) e
extent_ordered text start rest (Deep count) blob e = cc e
extent_ordered text start rest Open blob e = cc e

brace_ordered : (is_brace : Bool) (text : List ℕ) (start : ℕ) (rest : List ℕ) (blob : BlobView) → (if is_brace then by_extent text start rest (extent rest) else Err (NotObject start)) ≡ Ok (Some blob) → blob.start ≤ blob.end
brace_ordered true text start rest blob e = extent_ordered text start rest (extent rest) blob e
brace_ordered false text start rest blob e = cc e

rest_ordered : (text : List ℕ) (start : ℕ) (rest : List ℕ) (blob : BlobView) → blob_at text start rest ≡ Ok (Some blob) → blob.start ≤ blob.end
rest_ordered text start [] blob e = cc e
rest_ordered text start (byte ∷ bytes) blob e = brace_ordered (byte == 123) text start (byte ∷ bytes) blob e

pub ordered : (text : List ℕ) (at : ℕ) (blob : BlobView) → next text at ≡ Ok (Some blob) → blob.start ≤ blob.end
ordered text at blob e = rest_ordered text (start_after text at) (drop (start_after text at) text) blob e

-- ---- the loop

-- these events, and then those that a reading gives
abbrev pub after : List Event → Result (List Event) EventFault → Result (List Event) EventFault
after found later = and_then later (λ more. Ok (found ++ more))

-- A loop that stands at this place of a text, and has these events of what is before it: with those of the rest they are the events of the text.
pub record Reads (whole : List ℕ) (now : Reading) (found : List Event) : Type 0 where
  pub text : now.text ≡ whole
  pub low : length found ≤ now.at
  pub rest : after found (stream_events (length found) whole (blobs_from now.text now.at)) ≡ events_of whole

after_none : (later : Result (List Event) EventFault) → after [] later ≡ later
after_none (Ok more) = refl
after_none (Err fault) = refl

after_one : (found : List Event) (event : Event) (later : Result (List Event) EventFault) → after found (and_then later (λ more. Ok (event ∷ more))) ≡ after (found ++ event ∷ []) later
after_one found event (Ok more) = ap Ok (sym (append_assoc found (event ∷ []) more))
after_one found event (Err fault) = refl

pub at_start : (whole : List ℕ) → Reads whole (record { text = whole; at = 0 }) []
at_start whole = record { text = refl; low = omega arith; rest = after_none (events_of whole) }

first_event : (event : Result Event EventFault) (others : Result (List Event) EventFault) (end : Option StreamFault)
    → and_then (and_then event (λ event. and_then others (λ more. Ok (event ∷ more)))) (λ found. unless_broken found end)
    ≡ and_then event (λ event. and_then (and_then others (λ found. unless_broken found end)) (λ more. Ok (event ∷ more)))
first_event (Err fault) others end = refl
first_event (Ok event) (Err fault) end = refl
first_event (Ok event) (Ok more) None = refl
first_event (Ok event) (Ok more) (Some fault) = refl

-- what is left, where a blob stands there
blob_first : (whole : List ℕ) (now : Reading) (found : List Event) (blob : BlobView) (later : Stream) (event : Result Event EventFault) → Reads whole now found
    → blobs_from now.text now.at ≡ before (blob ∷ []) later → event_of (length found) blob.value (bytes_of whole blob) ≡ event
    → after found (and_then event (λ event. and_then (stream_events (length found + 1) whole later) (λ more. Ok (event ∷ more)))) ≡ events_of whole
blob_first whole now found blob later event h e f =
    ap (λ event. after found (and_then event (λ event. and_then (stream_events (length found + 1) whole later) (λ more. Ok (event ∷ more))))) (sym f)
    ∙ ap (after found) (sym (first_event (event_of (length found) blob.value (bytes_of whole blob)) (events_from (length found + 1) whole later.blobs) later.fault))
    ∙ ap (λ stream. after found (stream_events (length found) whole stream)) (sym e)
    ∙ h.rest

-- one event more
pub one_more : (whole : List ℕ) (now new : Reading) (found : List Event) (blob : BlobView) (event : Event) → Reads whole now found
    → blobs_from now.text now.at ≡ before (blob ∷ []) (blobs_from new.text new.at) → new.text ≡ now.text → now.at < new.at
    → event_of (length found) blob.value (bytes_of whole blob) ≡ Ok event → Reads whole new (found ++ event ∷ [])
one_more whole now new found blob event h e same further f =
    let longer = length-append found (event ∷ []) in
    let later = blobs_from new.text new.at in
    record {
      text = same ∙ h.text;
      low = omega (arith, longer, further, h.low);
      rest =
          ap (λ n. after (found ++ event ∷ []) (stream_events n whole later)) longer
          ∙ sym (after_one found event (stream_events (length found + 1) whole later))
          ∙ blob_first whole now found blob later (Ok event) h e f;
    }

-- a fault in the next blob is that of the text
pub blob_fault : (whole : List ℕ) (now : Reading) (found : List Event) (blob : BlobView) (later : Stream) (fault : EventFault) → Reads whole now found
    → blobs_from now.text now.at ≡ before (blob ∷ []) later → event_of (length found) blob.value (bytes_of whole blob) ≡ Err fault → events_of whole ≡ Err fault
blob_fault whole now found blob later fault h e f = sym (blob_first whole now found blob later (Err fault) h e f)

-- where no blob is left, the events are those that were found
pub all_read : (whole : List ℕ) (now : Reading) (found : List Event) → Reads whole now found → blobs_from now.text now.at ≡ record { blobs = []; fault = None } → events_of whole ≡ Ok found
all_read whole now found h e = sym h.rest ∙ ap (λ stream. after found (stream_events (length found) whole stream)) e ∙ ap Ok (append-nil found)

-- a fault of the rest is that of the text
pub rest_fault : (whole : List ℕ) (now : Reading) (found : List Event) (fault : StreamFault) → Reads whole now found
    → blobs_from now.text now.at ≡ record { blobs = []; fault = Some fault } → events_of whole ≡ Err (stream_fault fault)
rest_fault whole now found fault h e = sym h.rest ∙ ap (λ stream. after found (stream_events (length found) whole stream)) e
