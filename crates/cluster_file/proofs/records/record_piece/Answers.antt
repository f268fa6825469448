use Rattle.std.proofs.Common.{ℕ, List, length, ◌<◌, ◌^◌, subst, ◌∙◌}
use Rattle.cluster_file.proofs.RecordForms.{record-fits, piece-spelled}
use Rattle.cluster_file.proofs.records.record_piece.Goals as goal

pub returns-clause-fits : goal.returns-clause-fits
returns-clause-fits c =
    record-fits c.args.write.now c.in_ok-payload.payload c.in_ok-payload.ensures
    (subst (λ (l : List ℕ). length l < 2 ^ 64) c.as_slice.ensures c.closed_record.ensures.short)

pub returns-clause-piece : goal.returns-clause-piece
returns-clause-piece c =
    c.from_vec.ensures ∙ c.in_ok-bytes.ensures.bytes
    ∙ piece-spelled c.args.write.now c.as_slice.result.now 0 (c.as_slice.ensures ∙ c.in_ok-payload.ensures.1)
