use Rattle.std.proofs.Common.{arith}
use Rattle.derivations.proofs.Parts.{ended_more}
use Rattle.derivations.proofs.reading.lines.ended.Goals as goal

pub returns-in-Ok : goal.returns-in-Ok
returns-in-Ok c = ended_more c.args.number c.in-Ok.field-0.now c.args.text.now (omega arith) c.in-Ok.ensures.line
