-- What a walk keeps. It holds no agenda: the lists are those of the chosen variables, in order, and two numbers say which of them is looked at next.
use Rattle.std.specs.Prelude.{◌≡◌, ℕ, ◌≤◌, ◌<◌, Bool, true, List, [], ◌∷◌, ◌++◌, length, drop, Some}
use Rattle.std.specs.List.{AllByRecursion}
use Rattle.op_constraints.specs.declared.Constraint.{Constraint}
use Rattle.op_constraints.specs.Meets.{constraints_of, at, IsClosed}
use Rattle.op_constraints.specs.Walks.{is_among, dependencies, agenda, passed, waiting, walk}
use Rattle.op_constraints.specs.Kept.{is_distinct}

-- the lists of these variables, of the first one only those from its place-th constraint on
abbrev pub rest_of : List (List Constraint) → List ℕ → ℕ → List (List ℕ)
rest_of problem [] place = []
rest_of problem (v ∷ vs) place = dependencies (drop place (constraints_of problem v)) ++ agenda problem vs

-- the lists from the place-th constraint of the variable at this index on
abbrev pub rest : List (List Constraint) → List ℕ → ℕ → ℕ → List (List ℕ)
rest problem chosen index place = rest_of problem (drop index chosen) place

-- the numbers lead to what is chosen, and the bits are its set
pub record Stands (problem : List (List Constraint)) (bits : List Bool) (chosen numbers : List ℕ) : Type 0 where
  pub closed : IsClosed problem
  pub walked : walk problem numbers ≡ Some chosen
  pub size : length bits ≡ length problem
  pub same : at bits ≡ is_among chosen
  pub within : AllByRecursion (λ v. v < length problem) chosen
  pub once : is_distinct chosen ≡ true

-- each list before that place holds something chosen
pub record Looks (problem : List (List Constraint)) (chosen : List ℕ) (index place : ℕ) : Type 0 where
  pub reached : index ≤ length chosen
  pub ended : index ≡ length chosen → place ≡ 0
  pub looked : waiting problem chosen ≡ passed (is_among chosen) (rest problem chosen index place)

-- no push needs memory
pub record HasRoom (problem : List (List Constraint)) (chosen numbers : ℕ) : Type 0 where
  pub for_chosen : length problem ≤ chosen
  pub for_numbers : length problem ≤ numbers
