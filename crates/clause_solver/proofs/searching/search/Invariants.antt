use Rattle.std.proofs.Common.{◌≡◌}
use Rattle.clause_analysis.specs.Caused.{assumed, IsCaused}
use Rattle.clause_solver.specs.Held.{IsHeld, IsPaid}
use Rattle.clause_solver.specs.Searching.{turns_left}
use Rattle.clause_solver.proofs.searching.search.Given as goal

abbrev pub invariant-loop-answer : goal.invariant-loop-answer
invariant-loop-answer g l = record {
  held : IsHeld l.problem l.lemmas (g.S.ProofSink.lemmas l.sink);
  paid : IsPaid (g.S.ProofSink.lemmas l.initial.sink) (g.S.ProofSink.lemmas l.sink) l.initial.budget.left l.budget.left;
  caused : IsCaused l.problem l.lemmas l.trail;
  same : assumed l.trail.entries ≡ assumed l.initial.trail.entries;
}

abbrev pub decreases-loop-answer : goal.decreases-loop-answer
decreases-loop-answer g l = turns_left l.budget.left l.trail
