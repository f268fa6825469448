use Rattle.std.proofs.Common.{◌≡◌, ℕ, ◌<◌, Some, slice_get}
use Rattle.op_constraints.specs.declared.Constraint.{Constraint}
use Rattle.op_constraints.specs.Meets.{at}
use Rattle.preference_search.specs.Denials.{IsAllowed}
use Rattle.preference_search.proofs.denials.by_any.Given as goal

abbrev pub invariant-loop-number : goal.invariant-loop-number
invariant-loop-number l = (place : ℕ) (c : Constraint) → place < l.number → slice_get l.constraints place ≡ Some c → IsAllowed (at l.bits) l.var c
