use Rattle.std.proofs.Common.{◌≡◌, map, take}
use Rattle.derivations.specs.Clauses.{negative}
use Rattle.preference_search.proofs.denials.denials_of.Given as goal

abbrev pub invariant-loop-var : goal.invariant-loop-var
invariant-loop-var l = l.lits.items ≡ map negative (take l.var-index l.vars)
