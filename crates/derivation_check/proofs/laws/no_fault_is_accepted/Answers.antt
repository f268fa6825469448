use Rattle.derivation_check.proofs.AcceptedLemmas.{no_fault_accepted, accepted_no_fault}
use Rattle.derivation_check.proofs.laws.no_fault_is_accepted.Goals as goal

pub returns : goal.returns
returns c = λ problem certificate. (no_fault_accepted problem certificate, accepted_no_fault problem certificate)
