-- Walks: the preference order over the sets that a problem lets one choose. A walk is a list of numbers, and stands at the list of what it has chosen.
use Rattle.std.specs.Prelude.{◌≡◌, ℕ, zero, suc, ◌+◌, ◌<◌, ◌⊎◌, Bool, true, false, cond, ◌==◌, List, [], ◌∷◌, ◌++◌, length, drop, slice_get, slice_index, Option, Some, None}
use Rattle.std.specs.Option.{option_and_then, option_map_or}
use Rattle.std.specs.List.{list_any, AllByRecursion}
use Rattle.op_constraints.specs.declared.Constraint.{Constraint}
use Rattle.op_constraints.specs.declared.Constraint.TheVariants.{Mandatory, Prohibited, Dependency, Conflict, AtMost}
use Rattle.op_constraints.specs.Meets.{constraints_of, Meets}

-- v is one of these
abbrev pub is_among : List ℕ → ℕ → Bool
is_among vs v = list_any (λ w. w == v) vs

abbrev pub is_mandatory : Constraint → Bool
is_mandatory Mandatory = true
is_mandatory Prohibited = false
is_mandatory (Dependency members) = false
is_mandatory (Conflict other) = false
is_mandatory (AtMost most members) = false

-- the variables from number v on that have a Mandatory constraint
abbrev pub mandatory_from : ℕ → List (List Constraint) → List ℕ
mandatory_from v [] = []
mandatory_from v (cs ∷ css) = cond (list_any is_mandatory cs) (v ∷ mandatory_from (v + 1) css) (mandatory_from (v + 1) css)

-- what a walk begins with
abbrev pub mandatory : List (List Constraint) → List ℕ
mandatory problem = mandatory_from 0 problem

-- the lists of the Dependency constraints
abbrev pub dependencies : List Constraint → List (List ℕ)
dependencies [] = []
dependencies (Mandatory ∷ cs) = dependencies cs
dependencies (Prohibited ∷ cs) = dependencies cs
dependencies (Dependency members ∷ cs) = members ∷ dependencies cs
dependencies (Conflict other ∷ cs) = dependencies cs
dependencies (AtMost most members ∷ cs) = dependencies cs

-- those of the chosen variables, in the order in which they were chosen
abbrev pub agenda : List (List Constraint) → List ℕ → List (List ℕ)
agenda problem [] = []
agenda problem (v ∷ vs) = dependencies (constraints_of problem v) ++ agenda problem vs

-- the lists from the first one on that holds nothing of the set
abbrev pub passed : (ℕ → Bool) → List (List ℕ) → List (List ℕ)
passed set [] = []
passed set (members ∷ lists) = cond (list_any set members) (passed set lists) (members ∷ lists)

-- the lists that wait for a choice; the first of them is chosen from next
abbrev pub waiting : List (List Constraint) → List ℕ → List (List ℕ)
waiting problem chosen = passed (is_among chosen) (agenda problem chosen)

abbrev pub first_of : List (List ℕ) → List ℕ
first_of [] = []
first_of (members ∷ lists) = members

-- the list that is chosen from next; an empty one where none waits
abbrev pub choice : List (List Constraint) → List ℕ → List ℕ
choice problem chosen = first_of (waiting problem chosen)

-- the member with this number of the first list
abbrev pub member : List (List ℕ) → ℕ → Option ℕ
member [] number = None
member (members ∷ lists) number = slice_get members number

-- all that is chosen after the numbers; none where a number isn't in its list
abbrev pub walk_from : List (List Constraint) → List ℕ → List ℕ → Option (List ℕ)
walk_from problem chosen [] = Some chosen
walk_from problem chosen (number ∷ numbers) =
    option_and_then (λ v. walk_from problem (chosen ++ v ∷ []) numbers) (member (waiting problem chosen) number)

abbrev pub walk : List (List Constraint) → List ℕ → Option (List ℕ)
walk problem numbers = walk_from problem (mandatory problem) numbers

-- the variables that the numbers pick, in order: what is chosen after the mandatory ones; none of what is no walk
abbrev pub picks : List (List Constraint) → List ℕ → List ℕ
picks problem numbers = option_map_or (λ chosen. drop (length (mandatory problem)) chosen) (walk problem numbers) []

-- no list waits at the walk's end
pub record IsFull (problem : List (List Constraint)) (numbers : List ℕ) : Type 0 where
  pub chosen : List ℕ
  pub walked : walk problem numbers ≡ Some chosen
  pub full : waiting problem chosen ≡ []

-- no list waits at the walk's end, and what it chose meets the problem
pub record Succeeds (problem : List (List Constraint)) (numbers : List ℕ) : Type 0 where
  pub chosen : List ℕ
  pub walked : walk problem numbers ≡ Some chosen
  pub full : waiting problem chosen ≡ []
  pub met : Meets problem (is_among chosen)

-- the order of lists: by the first number that differs, and a list before what extends it
abbrev pub IsBefore : List ℕ → List ℕ → Type 0
IsBefore js [] = ⊥
IsBefore [] (k ∷ ks) = Unit {0}
IsBefore (j ∷ js) (k ∷ ks) = (j < k) ⊎ ((j ≡ k) × IsBefore js ks)

-- the walk succeeds, and none before it does
pub record IsBest (problem : List (List Constraint)) (numbers : List ℕ) : Type 0 where
  pub succeeds : Succeeds problem numbers
  pub first : (earlier : List ℕ) → IsBefore earlier numbers → Succeeds problem earlier → ⊥

-- a list of numbers, not empty, each of which lies in its choice's list
pub record IsPartial (problem : List (List Constraint)) (numbers : List ℕ) : Type 0 where
  pub chosen : List ℕ
  pub walked : walk problem numbers ≡ Some chosen
  pub some : numbers ≡ [] → ⊥

-- each list before the next
abbrev pub AreRising : List (List ℕ) → Type 0
AreRising [] = Unit {0}
AreRising (ks ∷ []) = Unit {0}
AreRising (js ∷ ks ∷ rest) = IsBefore js ks × AreRising (ks ∷ rest)

-- more than this many partial walks don't come after the best one, or there are more in all and none is best
pub record IsWide (problem : List (List Constraint)) (number : ℕ) : Type 0 where
  pub walks : List (List ℕ)
  pub many : number < length walks
  pub rising : AreRising walks
  pub partial : AllByRecursion (IsPartial problem) walks
  pub early : (best : List ℕ) → IsBest problem best → AllByRecursion (λ ks. IsBefore best ks → ⊥) walks

-- n zeros
abbrev pub zeros : ℕ → List ℕ
zeros zero = []
zeros (suc n) = 0 ∷ zeros n

-- the walk that takes number 0 at every choice, up to its end or to a list that is empty
pub record IsFirstWalk (problem : List (List Constraint)) (numbers : List ℕ) : Type 0 where
  pub chosen : List ℕ
  pub walked : walk problem numbers ≡ Some chosen
  pub first : numbers ≡ zeros (length numbers)
  pub ended : choice problem chosen ≡ []

-- the first walk is full, and what it chose meets the problem
abbrev pub FirstSucceeds : List (List Constraint) → Type 0
FirstSucceeds problem = (n : ℕ) × Succeeds problem (zeros n)

-- a walk as clauses see it: its problem, its numbers and all that it chose
pub record Walked : Type 0 where
  pub problem : List (List Constraint)
  pub numbers : List ℕ
  pub chosen : List ℕ

-- no number taken yet
abbrev pub begun : List (List Constraint) → Walked
begun problem = record { problem = problem; numbers = []; chosen = mandatory problem }

-- one number more taken: its member of the choice is chosen last
abbrev pub taken : Walked → ℕ → Walked
taken walk number = record {
  problem = walk.problem;
  numbers = walk.numbers ++ number ∷ [];
  chosen = walk.chosen ++ slice_index (choice walk.problem walk.chosen) number ∷ [];
}
