use Rattle.std.proofs.Common.{◌≡◌, ◌-◌}
use Rattle.op_constraints.specs.Trails.{At}
use Rattle.op_constraints.proofs.first.first_walk.Given as goal

abbrev pub invariant-loop-trail : goal.invariant-loop-trail
invariant-loop-trail l = record {
  at : At l.tries l.trail;
  problem : l.trail.problem.now ≡ l.problem;
}

abbrev pub decreases-loop-trail : goal.decreases-loop-trail
decreases-loop-trail l = l.tries - l.trail.count
