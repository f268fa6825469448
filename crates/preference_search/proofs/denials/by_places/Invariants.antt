use Rattle.std.proofs.Common.{◌≡◌, ℕ, ◌<◌, Some, slice_get}
use Rattle.op_constraints.specs.declared.Constraint.{Constraint}
use Rattle.op_constraints.specs.Meets.{constraint_at, at}
use Rattle.preference_search.specs.declared.naming.Place.{Place}
use Rattle.preference_search.specs.Denials.{IsAllowed}
use Rattle.preference_search.proofs.denials.by_places.Given as goal

abbrev pub invariant-loop-place : goal.invariant-loop-place
invariant-loop-place l = (i : ℕ) (place : Place) (c : Constraint) → i < l.place-index → slice_get l.places i ≡ Some place → constraint_at l.problem place.owner place.constraint ≡ Some c → IsAllowed (at l.bits) place.owner c
