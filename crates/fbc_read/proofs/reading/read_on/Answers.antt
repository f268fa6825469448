use Rattle.std.proofs.Common.{◌≡◌, ◌<◌, ◌≤◌, Ok, Err, Option, false, refl, ap, subst, ◌∙◌, arith, length}
use Rattle.std.specs.Option.{IfSome}
use Rattle.catalog_stream.specs.declared.blobs.Blob.{Blob}
use Rattle.catalog_stream.specs.Stream as stream
use Rattle.catalog_stream.specs.Stream.{Takes, blobs_from, next_view, blob_view, place_after}
use Rattle.json_fields.specs.Faults as faults
use Rattle.fbc_read.specs.Catalogs.{is_free}
use Rattle.fbc_read.proofs.Along.{not_free, at_start, one_more, blob_fault}
use Rattle.fbc_read.proofs.reading.read_on.Goals as goal

pub blobs-init : goal.blobs-init
blobs-init c = record { text = refl; low = omega arith; along = at_start c.args.into.now c.args.first (blobs_from c.args.blobs.now.text c.args.blobs.now.at) }

pub returns-in-Err-add_blob-clause-answer : goal.returns-in-Err-add_blob-clause-answer
returns-in-Err-add_blob-clause-answer c =
    λ free.
    let rest = blobs_from c.blobs.blobs.text c.blobs.blobs.at in
    let later = blobs_from c.next.new.self.text c.next.new.self.at in
    let takes = subst (λ (found : Option Blob). Takes stream.is_free rest later (next_view (Ok found))) c.in-Ok-Some.field-0-is c.in-Ok-Some.ensures.takes in
    let same = c.field_fault.ensures.fault free in
    let kept : faults.is_free c.in-Err-add_blob.fault ≡ false = not_free _ _ (λ m. ap is_free (c.field_fault.ensures.memory m)) free in
    blob_fault c.args.into.now c.args.first (blobs_from c.args.blobs.now.text c.args.blobs.now.at) rest later c.blobs.count c.blobs.into (blob_view c.in-Ok-Some.blob) c.in-Err-add_blob.fault
    c.blobs.invariant.along takes (c.in-Err-add_blob.ensures.answer kept)
    ∙ ap Err same

pub blobs-preserved : goal.blobs-preserved
blobs-preserved c =
    let rest = blobs_from c.blobs.blobs.text c.blobs.blobs.at in
    let later = blobs_from c.next.new.self.text c.next.new.self.at in
    let takes = subst (λ (found : Option Blob). Takes stream.is_free rest later (next_view (Ok found))) c.in-Ok-Some.field-0-is c.in-Ok-Some.ensures.takes in
    let place : c.next.new.self.at ≡ c.in-Ok-Some.blob.end = subst (λ (found : Option Blob). c.next.new.self.at ≡ place_after c.blobs.blobs.text found) c.in-Ok-Some.field-0-is c.in-Ok-Some.ensures.place in
    let further = subst (λ (found : Option Blob). IfSome found (λ (blob : Blob). (c.blobs.blobs.at < blob.end) × (blob.end ≤ length c.blobs.blobs.text))) c.in-Ok-Some.field-0-is c.in-Ok-Some.ensures.further in
    record {
      text = c.in-Ok-Some.ensures.text ∙ c.blobs.invariant.text;
      low = omega (arith, place, further.0, c.blobs.invariant.low);
      along = one_more c.args.into.now c.args.first (blobs_from c.args.blobs.now.text c.args.blobs.now.at) rest later c.blobs.count c.blobs.into c.add_blob.new.into (blob_view c.in-Ok-Some.blob)
          c.blobs.invariant.along takes c.in-Ok.ensures.answer;
    }
