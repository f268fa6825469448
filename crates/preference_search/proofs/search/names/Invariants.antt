use Rattle.std.proofs.Common.{◌≡◌, drop}
use Rattle.derivations.specs.Clauses.{is_in, negative}
use Rattle.preference_search.proofs.search.names.Given as goal

abbrev pub invariant-loop-lit : goal.invariant-loop-lit
invariant-loop-lit l = is_in l.lits (negative l.fn.var) ≡ is_in (drop l.lit-index l.lits) (negative l.fn.var)
