use Rattle.std.proofs.Common.{◌≡◌, ◌++◌, map, drop}
use Rattle.derivations.specs.Clauses.{denial}
use Rattle.clause_analysis.specs.Needs.{needed_of}
use Rattle.clause_analysis.proofs.needs.denials.Given as goal

abbrev pub invariant-loop-depth : goal.invariant-loop-depth
invariant-loop-depth l =
    l.lits.items ++ map (λ e. denial e.lit) (needed_of l.needs.needed.items (drop l.depth l.trail.entries))
    ≡ map (λ e. denial e.lit) (needed_of l.needs.needed.items (drop l.from l.trail.entries))
