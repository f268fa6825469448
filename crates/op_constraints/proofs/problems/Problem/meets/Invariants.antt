use Rattle.std.proofs.Common.{◌≡◌, ℕ, ◌<◌, true, Some}
use Rattle.op_constraints.specs.declared.Constraint.{Constraint}
use Rattle.op_constraints.specs.Meets.{at, constraint_at, is_true_of}
use Rattle.op_constraints.proofs.problems.Problem.meets.Given as goal

abbrev pub invariant-loop-index : goal.invariant-loop-index
invariant-loop-index l =
    (v place : ℕ) (c : Constraint) → v < l.index → constraint_at l.self v place ≡ Some c → is_true_of (at l.set) v c ≡ true
