use Rattle.std.proofs.Common.{◌≡◌, ℕ, ◌<◌, Some}
use Rattle.op_constraints.specs.declared.Constraint.{Constraint}
use Rattle.op_constraints.specs.Meets.{constraint_at}
use Rattle.clause_trail.specs.Trails.{literals}
use Rattle.clause_trail.specs.Scans.{IsSettledGiven}
use Rattle.clause_trail.proofs.given.scan_given.Given as goal

abbrev pub invariant-loop-index : goal.invariant-loop-index
invariant-loop-index l = (v place : ℕ) (c : Constraint) → v < l.index → constraint_at l.problem v place ≡ Some c → IsSettledGiven (literals l.trail.entries) v c
