use Rattle.std.proofs.Common.{sym, ◌∙◌, length, arith}
use Rattle.std.proofs.lemmas.Bool.{eqb-true, eqb-false}
use Rattle.cluster_file.proofs.RecordForms.{record-none, record-ends, record-other, record-is}
use Rattle.cluster_file.proofs.records.next_record.Goals as goal

pub returns-in_default : goal.returns-in_default
returns-in_default c = record-none c.args.bytes.now c.in_default.ensures

pub returns-then-is_empty : goal.returns-then-is_empty
returns-then-is_empty c =
    record-ends c.args.bytes.now c.in-Some.payload.now c.in-Some.rest.now c.in-Some.ensures
    (eqb-true (length c.in-Some.rest.now) 0 (sym c.is_empty.ensures ∙ c.if-is_empty.true))

pub returns-in-Some-2 : goal.returns-in-Some-2
returns-in-Some-2 c =
    let some = eqb-false (length c.in-Some.rest.now) 0 (sym c.is_empty.ensures ∙ c.if-is_empty.false) in
    record-is c.args.bytes.now c.in-Some.payload.now c.in-Some.rest.now c.in-Some-2.write c.in-Some.ensures (omega (arith, some)) (sym c.in_ok-write.ensures.exact ∙ c.in-Some-2.is)

pub returns-in-None : goal.returns-in-None
returns-in-None c = record-other c.args.bytes.now c.in-Some.payload.now c.in-Some.rest.now c.in-Some.ensures (sym c.in_ok-write.ensures.exact ∙ c.in-None.is)
