-- What clauses say over a trail.
use Rattle.std.specs.Prelude.{◌≡◌, ℕ, true, List, [], slice_get, Some, Ok}
use Rattle.op_constraints.specs.declared.Lit.{Lit}
use Rattle.op_constraints.specs.declared.Constraint.{Constraint}
use Rattle.op_constraints.specs.Meets.{constraint_at}
use Rattle.derivations.specs.declared.Hint.{Hint}
use Rattle.derivations.specs.declared.Hint.TheVariants.{Given}
use Rattle.derivations.specs.Clauses.{given_clause}
use Rattle.derivations.specs.Follows.{clause_of, left, forced, is_nothing}
use Rattle.clause_trail.specs.declared.Reason.{Reason}
use Rattle.clause_trail.specs.declared.Scan.{Scan}
use Rattle.clause_trail.specs.declared.Scan.TheVariants.{Settled, Unit as Forces, Conflict}
use Rattle.clause_trail.specs.declared.rows.Status.{Status}
use Rattle.clause_trail.specs.declared.rows.Status.TheVariants as status
use Rattle.clause_trail.specs.Trails.{IsSettled}

-- what is read of one clause
abbrev pub Reads : List Lit → List Lit → Status → Type 0
Reads trail clause status.Settled = IsSettled trail clause
Reads trail clause (status.Unit l) = forced trail clause ≡ Some l
Reads trail clause status.Conflict = is_nothing (left trail clause) ≡ true

-- what the clause with this hint says over the trail
abbrev pub ScansClause : List Lit → Hint → List Lit → Scan → Type 0
ScansClause trail hint clause Settled = IsSettled trail clause
ScansClause trail hint clause (Forces l reason) = (reason.hint ≡ hint) × (reason.lits ≡ clause) × (forced trail clause ≡ Some l)
ScansClause trail hint clause (Conflict reason) = (reason.hint ≡ hint) × (reason.lits ≡ clause) × (is_nothing (left trail clause) ≡ true)

-- the constraint of the variable, with this number, gives the clause of the reason
pub record IsGivenBy (v place : ℕ) (c : Constraint) (reason : Reason) : Type 0 where
  pub named : List ℕ
  pub hint : reason.hint ≡ Given v place named
  pub given : given_clause v c named ≡ Some reason.lits

-- each clause that the constraint gives is settled
abbrev pub IsSettledGiven : List Lit → ℕ → Constraint → Type 0
IsSettledGiven trail v c = (named : List ℕ) (clause : List Lit) → given_clause v c named ≡ Some clause → IsSettled trail clause

-- what the constraint says over the trail
abbrev pub ScansConstraint : List Lit → ℕ → ℕ → Constraint → Scan → Type 0
ScansConstraint trail v place c Settled = IsSettledGiven trail v c
ScansConstraint trail v place c (Forces l reason) = IsGivenBy v place c reason × (forced trail reason.lits ≡ Some l)
ScansConstraint trail v place c (Conflict reason) = IsGivenBy v place c reason × (is_nothing (left trail reason.lits) ≡ true)

-- one of the constraints of the variable gives the clause of the reason
pub record IsGivenByOne (v : ℕ) (constraints : List Constraint) (reason : Reason) : Type 0 where
  pub place : ℕ
  pub constraint : Constraint
  pub at : slice_get constraints place ≡ Some constraint
  pub gives : IsGivenBy v place constraint reason

-- what the constraints of the variable say over the trail
abbrev pub ScansVariable : List Lit → ℕ → List Constraint → Scan → Type 0
ScansVariable trail v constraints Settled = (place : ℕ) (c : Constraint) → slice_get constraints place ≡ Some c → IsSettledGiven trail v c
ScansVariable trail v constraints (Forces l reason) = IsGivenByOne v constraints reason × (forced trail reason.lits ≡ Some l)
ScansVariable trail v constraints (Conflict reason) = IsGivenByOne v constraints reason × (is_nothing (left trail reason.lits) ≡ true)

-- each clause that a hint names is settled
abbrev pub AllSettled : List (List Constraint) → List (List Lit) → List Lit → Type 0
AllSettled problem earlier trail = (hint : Hint) (clause : List Lit) → clause_of problem earlier hint ≡ Ok clause → IsSettled trail clause

-- what the clauses of the problem and the earlier ones say over the trail
abbrev pub Scans : List (List Constraint) → List (List Lit) → List Lit → Scan → Type 0
Scans problem earlier trail Settled = AllSettled problem earlier trail
Scans problem earlier trail (Forces l reason) = (clause_of problem earlier reason.hint ≡ Ok reason.lits) × (forced trail reason.lits ≡ Some l)
Scans problem earlier trail (Conflict reason) = (clause_of problem earlier reason.hint ≡ Ok reason.lits) × (is_nothing (left trail reason.lits) ≡ true)

-- what the clauses that the problem gives say over the trail, beside any earlier ones
abbrev pub ScansGiven : List (List Constraint) → List (List Lit) → List Lit → Scan → Type 0
ScansGiven problem earlier trail Settled = (v place : ℕ) (c : Constraint) → constraint_at problem v place ≡ Some c → IsSettledGiven trail v c
ScansGiven problem earlier trail (Forces l reason) = (clause_of problem earlier reason.hint ≡ Ok reason.lits) × (forced trail reason.lits ≡ Some l)
ScansGiven problem earlier trail (Conflict reason) = (clause_of problem earlier reason.hint ≡ Ok reason.lits) × (is_nothing (left trail reason.lits) ≡ true)
