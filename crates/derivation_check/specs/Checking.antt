-- What a checker keeps.
use Rattle.std.specs.Prelude.{◌≡◌, ℕ, Bool, List, length, Option}
use Rattle.op_constraints.specs.declared.Constraint.{Constraint}
use Rattle.op_constraints.specs.Meets.{IsClosed}
use Rattle.op_constraints.specs.Walks.{Walked}

-- a checker as clauses see it: its problem, and the longest walk that it may be given
pub record Checking : Type 0 where
  pub problem : List (List Constraint)
  pub longest : ℕ

-- there is a mark of each kind for each variable, and the walk is one of the problem
pub record IsReady (problem : List (List Constraint)) (members marks : List (Option Bool)) (walk : Walked) : Type 0 where
  pub closed : IsClosed problem
  pub listed : length members ≡ length problem
  pub marked : length marks ≡ length problem
  pub walks : walk.problem ≡ problem
