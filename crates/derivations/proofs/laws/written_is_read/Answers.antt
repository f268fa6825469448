use Rattle.derivations.specs.Text.{certificate_text}
use Rattle.derivations.proofs.Back.{written_is_read}
use Rattle.derivations.proofs.Fitting.{read_fits}
use Rattle.derivations.proofs.laws.written_is_read.Goals as goal

pub returns : goal.returns
returns c = λ certificate. (written_is_read certificate, read_fits (certificate_text certificate) certificate)
