use Rattle.std.proofs.Common.{◌≡◌, drop}
use Rattle.clause_analysis.specs.Needs.{with_marked}
use Rattle.clause_analysis.proofs.needs.Needs.mark.Given as goal

abbrev pub invariant-loop-lit : goal.invariant-loop-lit
invariant-loop-lit l =
    (with_marked l.initial.self.needed.items l.lits ≡ with_marked l.self.needed.items (drop l.lit-index l.lits)) × (l.self.hints.items ≡ l.initial.self.hints.items)
