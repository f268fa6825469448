use Rattle.std.proofs.Common.{Ok, sym, ap, ◌∙◌, option_map}
use Rattle.catalog_stream.specs.Stream as spec
use Rattle.catalog_stream.proofs.Turns.{takes_blob, takes_none, takes_fault}
use Rattle.catalog_stream.proofs.blobs.Blobs.next.Goals as goal

pub returns-in-Ok-Some-clause-takes : goal.returns-in-Ok-Some-clause-takes
returns-in-Ok-Some-clause-takes c =
    let found = c.in-Ok-Some.ensures.answer ∙ ap (λ o. Ok (option_map spec.blob_view o)) c.in-Ok-Some.field-0-is in
    ap (λ reading. spec.blobs_from reading.text reading.at) (sym c.self.view_is) ∙ takes_blob c.self.inside.text.now c.self.inside.at (spec.blob_view c.in-Ok-Some.blob) found

pub returns-in-Ok-None-clause-takes : goal.returns-in-Ok-None-clause-takes
returns-in-Ok-None-clause-takes c =
    let found = c.in-Ok-None.ensures.answer ∙ ap (λ o. Ok (option_map spec.blob_view o)) c.in-Ok-None.field-0-is in
    ap (λ reading. spec.blobs_from reading.text reading.at) (sym c.self.view_is) ∙ takes_none c.self.inside.text.now c.self.inside.at found

pub returns-in-Err-clause-takes : goal.returns-in-Err-clause-takes
returns-in-Err-clause-takes c = λ bound.
    ap (λ reading. spec.blobs_from reading.text reading.at) (sym c.self.view_is) ∙ takes_fault c.self.inside.text.now c.self.inside.at c.in-Err.fault (c.in-Err.ensures.answer bound)
