-- What denies a set of chosen variables: a clause that says of some of them that they can't all be in.
use Rattle.std.specs.Prelude.{◌≡◌, ℕ, Bool, true, false, not, ◌&&◌, List, [], ◌∷◌, map, slice_get, Ok, Some}
use Rattle.std.specs.List.{list_all, AllByRecursion}
use Rattle.op_constraints.specs.declared.Lit.{Lit}
use Rattle.op_constraints.specs.declared.Constraint.{Constraint}
use Rattle.op_constraints.specs.Meets.{constraint_at}
use Rattle.derivations.specs.declared.Hint.{Hint}
use Rattle.derivations.specs.declared.Hint.TheVariants.{Given}
use Rattle.op_constraints.specs.Kept.{is_distinct}
use Rattle.derivations.specs.declared.Lemma.{Lemma}
use Rattle.derivations.specs.declared.Refutation.{Refutation}
use Rattle.derivations.specs.Clauses.{given_clause}
use Rattle.derivations.specs.Follows.{clause_of, clauses, is_clause}
use Rattle.derivations.specs.Accepted.{contains_clause}

-- each literal of the clause says that one of the set is out
abbrev pub is_denied : (ℕ → Bool) → List Lit → Bool
is_denied set clause = list_all (λ l. not l.positive && set l.var) clause

-- the refutation has the literals of the clause that its one hint names, and each of them says that one of the set is out
pub record IsDenial (problem : List (List Constraint)) (log : List Lemma) (set : ℕ → Bool) (denial : Refutation) : Type 0 where
  pub hint : Hint
  pub clause : List Lit
  pub single : denial.hints ≡ hint ∷ []
  pub named : clause_of problem (clauses log) hint ≡ Ok clause
  pub all : contains_clause denial.lits clause ≡ true
  pub only : contains_clause clause denial.lits ≡ true
  pub good : is_clause problem denial.lits ≡ true
  pub inside : is_denied set denial.lits ≡ true

-- no clause that the constraint gives denies the set
abbrev pub IsAllowed : (ℕ → Bool) → ℕ → Constraint → Type 0
IsAllowed set v c = (named : List ℕ) (clause : List Lit) → given_clause v c named ≡ Some clause → is_denied set clause ≡ false

-- no clause that the problem gives denies the set
abbrev pub AllowsSet : List (List Constraint) → (ℕ → Bool) → Type 0
AllowsSet problem set = (v place : ℕ) (c : Constraint) → constraint_at problem v place ≡ Some c → IsAllowed set v c

-- no lemma denies the set
abbrev pub NoLemmaDenies : List Lemma → (ℕ → Bool) → Type 0
NoLemmaDenies log set = AllByRecursion (λ clause. is_denied set clause ≡ false) (clauses log)

-- no given clause and no lemma denies the set
pub record IsUndenied (problem : List (List Constraint)) (log : List Lemma) (set : ℕ → Bool) : Type 0 where
  pub given : AllowsSet problem set
  pub lemmas : NoLemmaDenies log set

-- the denial is by a clause that this constraint of the variable gives, with each variable once
pub record IsGivenDenial (set : ℕ → Bool) (v place : ℕ) (c : Constraint) (denial : Refutation) : Type 0 where
  pub named : List ℕ
  pub clause : List Lit
  pub given : given_clause v c named ≡ Some clause
  pub single : denial.hints ≡ Given v place named ∷ []
  pub all : contains_clause denial.lits clause ≡ true
  pub only : contains_clause clause denial.lits ≡ true
  pub once : is_distinct (map (λ l. l.var) denial.lits) ≡ true
  pub inside : is_denied set denial.lits ≡ true

-- one of the constraints from the first on gives it
pub record IsDeniedByOne (set : ℕ → Bool) (v : ℕ) (constraints : List Constraint) (denial : Refutation) : Type 0 where
  pub place : ℕ
  pub constraint : Constraint
  pub at : slice_get constraints place ≡ Some constraint
  pub gives : IsGivenDenial set v place constraint denial
