use Rattle.std.proofs.Common.{◌≡◌, take}
use Rattle.preference_search.proofs.denials.by_number.Given as goal

abbrev pub invariant-loop-lit : goal.invariant-loop-lit
invariant-loop-lit l = l.copy.items ≡ take l.lit-index l.lits
