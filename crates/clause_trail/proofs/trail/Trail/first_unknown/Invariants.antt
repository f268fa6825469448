use Rattle.std.proofs.Common.{ℕ, ◌<◌}
use Rattle.clause_trail.specs.Trails.{literals, IsKnown}
use Rattle.clause_trail.proofs.trail.Trail.first_unknown.Given as goal

abbrev pub invariant-loop-index : goal.invariant-loop-index
invariant-loop-index l = (v : ℕ) → v < l.index → IsKnown (literals l.self.entries) v
