use Rattle.std.proofs.Common.{◌==◌}
use Rattle.derivations.proofs.Parts.{first_part, whole_part}
use Rattle.derivations.proofs.reading.cuts.cut.Goals as goal

pub returns-in-Some-clause-first : goal.returns-in-Some-clause-first
returns-in-Some-clause-first c = first_part (λ b. b == c.args.byte) c.args.text.now c.in-Some.at (cc)

pub returns-in-None-clause-last : goal.returns-in-None-clause-last
returns-in-None-clause-last c = whole_part (λ b. b == c.args.byte) c.args.text.now (cc)
