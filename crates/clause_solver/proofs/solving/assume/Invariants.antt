use Rattle.std.proofs.Common.{◌≡◌, true, [], drop}
use Rattle.std.specs.List.{list_all}
use Rattle.clause_solver.specs.Solving.{with_all}
use Rattle.clause_solver.proofs.solving.assume.Given as goal

abbrev pub invariant-loop-var : goal.invariant-loop-var
invariant-loop-var l = record {
  size : l.trail.size ≡ l.count;
  entries : with_all l.trail.entries (drop l.var-index l.vars) ≡ with_all [] l.vars;
  positive : list_all (λ e. e.lit.positive) l.trail.entries ≡ true;
}
