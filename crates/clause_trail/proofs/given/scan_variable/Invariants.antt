use Rattle.std.proofs.Common.{◌≡◌, ℕ, ◌<◌, Some, slice_get}
use Rattle.op_constraints.specs.declared.Constraint.{Constraint}
use Rattle.clause_trail.specs.Trails.{literals}
use Rattle.clause_trail.specs.Scans.{IsSettledGiven}
use Rattle.clause_trail.proofs.given.scan_variable.Given as goal

abbrev pub invariant-loop-place : goal.invariant-loop-place
invariant-loop-place l = (p : ℕ) (c : Constraint) → p < l.place → slice_get l.constraints p ≡ Some c → IsSettledGiven (literals l.trail.entries) l.var c
