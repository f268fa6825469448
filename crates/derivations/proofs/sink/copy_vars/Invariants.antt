use Rattle.std.proofs.Common.{◌≡◌, take}
use Rattle.derivations.proofs.sink.copy_vars.Given as goal

abbrev pub invariant-loop-var : goal.invariant-loop-var
invariant-loop-var l = l.copy.items ≡ take l.var-index l.vars
