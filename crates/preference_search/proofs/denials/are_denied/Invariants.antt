use Rattle.std.proofs.Common.{◌≡◌, drop}
use Rattle.op_constraints.specs.Meets.{at}
use Rattle.preference_search.specs.Denials.{is_denied}
use Rattle.preference_search.proofs.denials.are_denied.Given as goal

abbrev pub invariant-loop-lit : goal.invariant-loop-lit
invariant-loop-lit l = is_denied (at l.bits) l.lits ≡ is_denied (at l.bits) (drop l.lit-index l.lits)
