use Rattle.std.proofs.Common.{◌≡◌, ℕ, ◌<◌, Some}
use Rattle.op_constraints.specs.declared.Constraint.{Constraint}
use Rattle.op_constraints.specs.Meets.{at, constraint_at}
use Rattle.preference_search.specs.Denials.{IsAllowed}
use Rattle.preference_search.proofs.denials.by_given.Given as goal

abbrev pub invariant-loop-index : goal.invariant-loop-index
invariant-loop-index l = (v place : ℕ) (c : Constraint) → v < l.index → constraint_at l.problem v place ≡ Some c → IsAllowed (at l.bits) v c
