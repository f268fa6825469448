-- What a solver holds, and what a call of it does.
use Rattle.std.specs.Prelude.{◌≡◌, ℕ, ◌+◌, true, ◌&&◌, List, [], ◌++◌, length, map}
use Rattle.std.specs.List.{list_all, AllByRecursion}
use Rattle.op_constraints.specs.declared.Lit.{Lit}
use Rattle.op_constraints.specs.declared.Constraint.{Constraint}
use Rattle.op_constraints.specs.Walks.{is_among}
use Rattle.derivations.specs.declared.Lemma.{Lemma}
use Rattle.derivations.specs.Clauses.{positive, is_in}
use Rattle.derivations.specs.Follows.{clauses, is_clause, LogFollows}
use Rattle.derivations.specs.Accepted.{IsIrredundant}
use Rattle.clause_arena.specs.declared.ClauseRef.{ClauseRef}
use Rattle.clause_arena.specs.Pieces.{clause_at, IsWithin}

-- the clauses that lie in a buffer at these places
abbrev pub clauses_at : List Lit → List ClauseRef → List (List Lit)
clauses_at buffer places = map (λ c. clause_at buffer c) places

-- each place is one of the buffer
abbrev pub AreWithin : List Lit → List ClauseRef → Type 0
AreWithin buffer places = AllByRecursion (λ c. IsWithin (length buffer) c) places

-- each lemma is a clause of the problem's variables
abbrev pub AreClauses : List (List Constraint) → List (List Lit) → Type 0
AreClauses problem lemmas = AllByRecursion (λ lits. is_clause problem lits ≡ true) lemmas

-- the lemmas are those of the log, which follows and wastes nothing
pub record IsHeld (problem : List (List Constraint)) (lemmas : List (List Lit)) (log : List Lemma) : Type 0 where
  pub same : lemmas ≡ clauses log
  pub follows : LogFollows problem log
  pub irredundant : IsIrredundant problem [] lemmas

-- the log is longer by as many lemmas as the budget lost
pub record IsPaid (before after : List Lemma) (left_before left_after : ℕ) : Type 0 where
  pub more : List Lemma
  pub longer : after ≡ before ++ more
  pub paid : left_after + length more ≡ left_before

-- the literals say of these variables, and of no others, that they are in
pub record IsAssumption (vars : List ℕ) (lits : List Lit) : Type 0 where
  pub each : (v : ℕ) → is_among vars v ≡ true → is_in lits (positive v) ≡ true
  pub alone : list_all (λ l. l.positive && is_among vars l.var) lits ≡ true
