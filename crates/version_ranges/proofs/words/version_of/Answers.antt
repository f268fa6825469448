use Rattle.version_ranges.proofs.Written.{not_text}
use Rattle.version_ranges.proofs.words.version_of.Goals as goal

pub returns-in-Err : goal.returns-in-Err
returns-in-Err c = not_text c.args.word.now c.in-Err.ensures.cases.0
