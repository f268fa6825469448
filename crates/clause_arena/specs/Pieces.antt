-- Clauses that lie one after the other in one list of literals.
use Rattle.std.specs.Prelude.{◌≡◌, ℕ, ◌≤◌, ◌⊎◌, List, ◌++◌, take, drop, length, slice_range}
use Rattle.op_constraints.specs.declared.Lit.{Lit}
use Rattle.clause_arena.specs.declared.ClauseRef.{ClauseRef}

-- the literals of the clause
abbrev pub clause_at : List Lit → ClauseRef → List Lit
clause_at lits c = slice_range lits c.start c.end

-- the clause lies within so many literals
abbrev pub IsWithin : ℕ → ClauseRef → Type 0
IsWithin size c = (c.start ≤ c.end) × (c.end ≤ size)

-- no place is of both clauses
abbrev pub AreApart : ClauseRef → ClauseRef → Type 0
AreApart c d = (c.end ≤ d.start) ⊎ (d.end ≤ c.start)

-- the list with other literals at the clause's place
abbrev pub with_clause : List Lit → ClauseRef → List Lit → List Lit
with_clause lits c part = take c.start lits ++ (part ++ drop c.end lits)

-- a clause that is changed, literal by literal, is as it was written, and each clause that is apart from it stays
pub record ChangesAlone : Type 0 where
  pub changed : (lits part : List Lit) (c : ClauseRef) → IsWithin (length lits) c → length part ≡ length (clause_at lits c) → clause_at (with_clause lits c part) c ≡ part
  pub size : (lits part : List Lit) (c : ClauseRef) → IsWithin (length lits) c → length part ≡ length (clause_at lits c) → length (with_clause lits c part) ≡ length lits
  pub others : (lits part : List Lit) (c d : ClauseRef) → IsWithin (length lits) c → IsWithin (length lits) d → AreApart c d → length part ≡ length (clause_at lits c) → clause_at (with_clause lits c part) d ≡ clause_at lits d
