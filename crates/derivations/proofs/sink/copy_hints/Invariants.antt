use Rattle.std.proofs.Common.{◌≡◌, take}
use Rattle.derivations.proofs.sink.copy_hints.Given as goal

abbrev pub invariant-loop-hint : goal.invariant-loop-hint
invariant-loop-hint l = l.copy.items ≡ take l.hint-index l.hints
