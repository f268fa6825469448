-- What trying the partial walks in their order comes to.
use Rattle.std.specs.Prelude.{ℕ, List}
use Rattle.op_constraints.specs.declared.Constraint.{Constraint}
use Rattle.op_constraints.specs.declared.first.Tried.{Tried}
use Rattle.op_constraints.specs.declared.first.Tried.TheVariants.{Found, Nothing, Spent}
use Rattle.op_constraints.specs.Walks.{Succeeds, IsBest, IsWide}

-- spent exactly where the problem is wide for the tries; else the walk is best, or none succeeds
abbrev pub IsTried : List (List Constraint) → ℕ → Tried → Type 0
IsTried problem tries (Found numbers) = IsBest problem numbers × (IsWide problem tries → ⊥)
IsTried problem tries Nothing = ((numbers : List ℕ) → Succeeds problem numbers → ⊥) × (IsWide problem tries → ⊥)
IsTried problem tries Spent = IsWide problem tries
