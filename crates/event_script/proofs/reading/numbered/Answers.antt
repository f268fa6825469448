use Rattle.std.proofs.Common.{◌≡◌, ◌∙◌, Err, ap, false}
use Rattle.json_fields.specs.Faults as faults
use Rattle.event_script.specs.Script as spec
use Rattle.event_script.proofs.Faults.{not_free, numbered_ok, numbered_err}
use Rattle.event_script.proofs.reading.numbered.Goals as goal

pub returns-in-Ok : goal.returns-in-Ok
returns-in-Ok c = λ wanted given. numbered_ok c.args.blob wanted c.args.found c.in-Ok.event given c.in-Ok.is

pub returns-in-Err : goal.returns-in-Err
returns-in-Err c =
    λ wanted given free.
    let kept : faults.is_free c.in-Err.fault ≡ false = not_free _ _ (λ memory. ap spec.is_free (c.field_fault.ensures.memory memory)) free in
    numbered_err c.args.blob wanted c.args.found c.in-Err.fault given kept c.in-Err.is ∙ ap Err (c.field_fault.ensures.fault free)
