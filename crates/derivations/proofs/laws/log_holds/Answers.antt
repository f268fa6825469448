use Rattle.std.proofs.Common.{[]}
use Rattle.derivations.proofs.Sound.{log_fault-hold}
use Rattle.derivations.proofs.laws.log_holds.Goals as goal

pub returns : goal.returns
returns c = λ problem log set f m. log_fault-hold problem [] log set f m tt
