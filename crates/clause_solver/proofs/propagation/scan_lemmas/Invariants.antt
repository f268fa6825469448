use Rattle.std.proofs.Common.{◌≡◌, ℕ, ◌<◌, List, Some, slice_get}
use Rattle.op_constraints.specs.declared.Lit.{Lit}
use Rattle.clause_trail.specs.Trails.{literals, IsSettled}
use Rattle.clause_solver.proofs.propagation.scan_lemmas.Given as goal

abbrev pub invariant-loop-number : goal.invariant-loop-number
invariant-loop-number l = (n : ℕ) (clause : List Lit) → n < l.number → slice_get l.lemmas n ≡ Some clause → IsSettled (literals l.trail.entries) clause
