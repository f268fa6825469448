use Rattle.version_ranges.proofs.Pieces.{first_piece, whole_piece}
use Rattle.version_ranges.specs.Words.{is_dot}
use Rattle.version_ranges.proofs.words.split_dot.Goals as goal

pub returns-in-Some-clause-some : goal.returns-in-Some-clause-some
returns-in-Some-clause-some c = first_piece is_dot c.args.word.now c.in-Some.at (cc)

pub returns-in-None-clause-none : goal.returns-in-None-clause-none
returns-in-None-clause-none c = whole_piece is_dot c.args.word.now (cc)
