use Rattle.std.proofs.Common.{◌≡◌, drop}
use Rattle.clause_solver.proofs.searching.cut.Given as goal

abbrev pub invariant-loop : goal.invariant-loop
invariant-loop l = (l.trail.entries ≡ drop l.counter l.initial.trail.entries) × (l.trail.size ≡ l.initial.trail.size)
