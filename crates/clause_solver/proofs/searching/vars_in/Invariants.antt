use Rattle.std.proofs.Common.{◌≡◌, ◌++◌, map, drop}
use Rattle.std.specs.List.{filter}
use Rattle.clause_solver.proofs.searching.vars_in.Given as goal

abbrev pub invariant-loop-depth : goal.invariant-loop-depth
invariant-loop-depth l =
    l.vars.items ++ map (λ e. e.lit.var) (filter (λ e. e.lit.positive) (drop l.depth l.trail.entries))
    ≡ map (λ e. e.lit.var) (filter (λ e. e.lit.positive) l.trail.entries)
