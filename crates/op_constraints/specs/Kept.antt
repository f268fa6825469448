-- What a problem keeps of the constraints that it is given, and what is so of each problem.
use Rattle.std.specs.Prelude.{◌≡◌, ℕ, ◌≤◌, ◌==◌, Bool, true, not, ◌&&◌, List, [], ◌∷◌, length}
use Rattle.std.specs.List.{filter, AllByRecursion}
use Rattle.op_constraints.specs.declared.Constraint.{Constraint}
use Rattle.op_constraints.specs.declared.Constraint.TheVariants.{Mandatory, Prohibited, Dependency, Conflict, AtMost}
use Rattle.op_constraints.specs.declared.TheConstants.{VAR_LIMIT}
use Rattle.op_constraints.specs.Walks.{is_among}

-- no number is there twice
abbrev pub is_distinct : List ℕ → Bool
is_distinct [] = true
is_distinct (v ∷ vs) = not (is_among vs v) && is_distinct vs

-- each number once, where it is first
abbrev pub each_once : List ℕ → List ℕ
each_once [] = []
each_once (v ∷ vs) = v ∷ filter (λ w. not (w == v)) (each_once vs)

-- the constraint as a problem keeps it: AtMost has each member once
abbrev pub kept : Constraint → Constraint
kept Mandatory = Mandatory
kept Prohibited = Prohibited
kept (Dependency members) = Dependency members
kept (Conflict other) = Conflict other
kept (AtMost most members) = AtMost most (each_once members)

-- the constraint names no more members than a problem may have variables
abbrev pub HasFewMembers : Constraint → Type 0
HasFewMembers Mandatory = Unit {0}
HasFewMembers Prohibited = Unit {0}
HasFewMembers (Dependency members) = length members ≤ VAR_LIMIT
HasFewMembers (Conflict other) = Unit {0}
HasFewMembers (AtMost most members) = length members ≤ VAR_LIMIT

-- AtMost names each member once
abbrev pub HasDistinctMembers : Constraint → Type 0
HasDistinctMembers Mandatory = Unit {0}
HasDistinctMembers Prohibited = Unit {0}
HasDistinctMembers (Dependency members) = Unit {0}
HasDistinctMembers (Conflict other) = Unit {0}
HasDistinctMembers (AtMost most members) = is_distinct members ≡ true

abbrev pub HasFewConstraints : List Constraint → Type 0
HasFewConstraints cs = length cs ≤ VAR_LIMIT

-- what is so of each problem
pub record IsKept (problem : List (List Constraint)) : Type 0 where
  pub few_variables : length problem ≤ VAR_LIMIT
  pub few_constraints : AllByRecursion HasFewConstraints problem
  pub few_members : AllByRecursion (λ cs. AllByRecursion HasFewMembers cs) problem
  pub distinct_members : AllByRecursion (λ cs. AllByRecursion HasDistinctMembers cs) problem
