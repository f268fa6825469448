use Rattle.std.proofs.Common.{◌≡◌, ◌-◌, ◌≤◌, length}
use Rattle.clause_analysis.specs.Caused.{assumed, IsCaused}
use Rattle.clause_solver.proofs.propagation.propagate.Given as goal

abbrev pub invariant-loop-reason : goal.invariant-loop-reason
invariant-loop-reason l = record {
  caused : IsCaused l.problem l.lemmas l.trail;
  same : assumed l.trail.entries ≡ assumed l.initial.trail.entries;
  more : length l.initial.trail.entries ≤ length l.trail.entries;
}

abbrev pub decreases-loop-reason : goal.decreases-loop-reason
decreases-loop-reason l = l.trail.size - length l.trail.entries
