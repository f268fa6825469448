use Rattle.std.proofs.Common.{Ok, Option, sym, ap, subst, ◌∙◌}
use Rattle.catalog_stream.specs.declared.blobs.Blob.{Blob}
use Rattle.catalog_stream.specs.Stream as stream
use Rattle.catalog_stream.specs.Stream.{Takes, blobs_from, next_view}
use Rattle.event_script.proofs.Along.{all_read}
use Rattle.event_script.proofs.Ranges.{events_in, events_run}
use Rattle.event_script.proofs.reading.read_events.Goals as goal

pub returns-in-Ok-None-clause-ranges : goal.returns-in-Ok-None-clause-ranges
returns-in-Ok-None-clause-ranges c =
    let rest = blobs_from c.blobs.blobs.text c.blobs.blobs.at in
    let later = blobs_from c.next.new.self.text c.next.new.self.at in
    let takes = subst (λ (found : Option Blob). Takes stream.is_free rest later (next_view (Ok found))) c.in-Ok-None.field-0-is c.in-Ok-None.ensures.takes in
    events_in c.args.text.now c.from_vec.result (all_read c.args.text.now c.blobs.blobs c.blobs.found.items c.blobs.invariant takes ∙ ap Ok (sym c.from_vec.ensures))

pub returns-in-Ok-None-clause-run : goal.returns-in-Ok-None-clause-run
returns-in-Ok-None-clause-run c =
    let rest = blobs_from c.blobs.blobs.text c.blobs.blobs.at in
    let later = blobs_from c.next.new.self.text c.next.new.self.at in
    let takes = subst (λ (found : Option Blob). Takes stream.is_free rest later (next_view (Ok found))) c.in-Ok-None.field-0-is c.in-Ok-None.ensures.takes in
    events_run c.args.text.now c.from_vec.result (all_read c.args.text.now c.blobs.blobs c.blobs.found.items c.blobs.invariant takes ∙ ap Ok (sym c.from_vec.ensures))
