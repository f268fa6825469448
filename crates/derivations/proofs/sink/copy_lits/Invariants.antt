use Rattle.std.proofs.Common.{◌≡◌, take}
use Rattle.derivations.proofs.sink.copy_lits.Given as goal

abbrev pub invariant-loop-lit : goal.invariant-loop-lit
invariant-loop-lit l = l.copy.items ≡ take l.lit-index l.lits
