-- The list that a search chooses from next.
use Rattle.std.specs.Prelude.{◌≡◌, ℕ, true, List, ◌∷◌, Some}
use Rattle.op_constraints.specs.declared.Constraint.{Constraint}
use Rattle.op_constraints.specs.declared.Constraint.TheVariants.{Dependency}
use Rattle.op_constraints.specs.Meets.{constraint_at}
use Rattle.op_constraints.specs.Walks.{is_among, waiting}

-- the members are the first list that waits, and are those of this constraint of a chosen variable
pub record IsNext (problem : List (List Constraint)) (chosen : List ℕ) (owner place : ℕ) (members : List ℕ) : Type 0 where
  pub at : constraint_at problem owner place ≡ Some (Dependency members)
  pub owned : is_among chosen owner ≡ true
  pub rest : List (List ℕ)
  pub waits : waiting problem chosen ≡ members ∷ rest
