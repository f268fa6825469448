use Rattle.std.proofs.Common.{sym}
use Rattle.derivations.proofs.Parts.{line_there}
use Rattle.derivations.proofs.reading.lines.next_line.Goals as goal

pub returns-in-Some-clause-line : goal.returns-in-Some-clause-line
returns-in-Some-clause-line c = sym (line_there c.in-Some.line.now c.in-Some.after.now c.args.text.now c.in-Some.ensures.first)
