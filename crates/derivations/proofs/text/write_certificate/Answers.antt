use Rattle.std.proofs.Common.{◌≡◌, ◌∙◌, ap, rules}
use Rattle.std.specs.List.{AllByRecursion}
use Rattle.derivations.specs.Text.{certificate_text}
use Rattle.derivations.specs.Fits.{LemmaFits}
use Rattle.derivations.specs.Reading.{certificate_of}
use Rattle.derivations.proofs.Back.{written_is_read}
use Rattle.derivations.proofs.text.write_certificate.Goals as goal

pub returns-clause-read : goal.returns-clause-read
returns-clause-read c =
    let text : c.from_vec.result ≡ certificate_text c.args.certificate.now = search rules in
    let lemmas : AllByRecursion LemmaFits c.args.certificate.now.log.lemmas = rw c.as_slice.ensures at c.in_ok-put_lemmas.ensures.fits in
    ap certificate_of text ∙ written_is_read c.args.certificate.now (c.put_number.ensures.fits, lemmas, c.in_ok-put_finding.ensures.fits)
