use Rattle.std.proofs.Common.{◌≡◌, Ok, arith}
use Rattle.derivations.specs.Reading.{certificate_of}
use Rattle.answer_lines.proofs.Bounds.{steps-within, walk-within}
use Rattle.answer_lines.proofs.verdicts.verify.Goals as goal

pub judged-requires-clause-walk : goal.judged-requires-clause-walk
judged-requires-clause-walk c =
    let read : certificate_of c.args.text.now ≡ Ok c.in-Ok.certificate = c.in-Ok.ensures in
    omega (arith, walk-within c.in-Ok.certificate.finding, c.read_is_bounded.ensures c.args.text.now c.in-Ok.certificate read, c.requires.short)

pub judged-requires-clause-refutations : goal.judged-requires-clause-refutations
judged-requires-clause-refutations c =
    let read : certificate_of c.args.text.now ≡ Ok c.in-Ok.certificate = c.in-Ok.ensures in
    omega (arith, steps-within c.in-Ok.certificate.finding, c.read_is_bounded.ensures c.args.text.now c.in-Ok.certificate read, c.requires.short)
