use Rattle.std.proofs.Common.{Ok, subst, sym, ap, ◌∙◌}
use Rattle.base64.specs.Engines.{standard}
use Rattle.base64.specs.GeneralPurpose.{IsDecodeFailure}
use Rattle.json_fields.proofs.Encoded.{bytes_read, bytes_refused}
use Rattle.json_fields.proofs.values.bytes_of.Goals as goal

pub returns-in-Ok : goal.returns-in-Ok
returns-in-Ok c = bytes_read c.args.text.now c.in-Ok.bytes.items c.in-Ok.ensures.ok ∙ ap Ok (sym c.from_vec.ensures)

pub returns-in-Err-DecodeError : goal.returns-in-Err-DecodeError
returns-in-Err-DecodeError c =
    λ free. bytes_refused c.args.text.now c.in-Err-DecodeError.field-0-0 (subst (IsDecodeFailure standard c.args.text.now) c.in-Err-DecodeError.field-0-is c.in-Err-DecodeError.ensures.err)
