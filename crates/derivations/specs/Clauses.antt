-- Clauses: lists of literals, read as sets. One holds of a set of variables where one of its literals does.
use Rattle.std.specs.Prelude.{ℕ, ◌+◌, ◌==◌, Bool, true, false, not, cond, ◌&&◌, List, [], ◌∷◌, length, map, Option, Some, None}
use Rattle.std.specs.List.{list_any, list_all}
use mathlib.Core.Bool.{beq}
use Rattle.op_constraints.specs.declared.Lit.{Lit}
use Rattle.op_constraints.specs.declared.Constraint.{Constraint}
use Rattle.op_constraints.specs.declared.Constraint.TheVariants.{Mandatory, Prohibited, Dependency, Conflict, AtMost}
use Rattle.op_constraints.specs.Walks.{is_among}
use Rattle.op_constraints.specs.Kept.{is_distinct}

-- the literal that the variable is in
abbrev pub positive : ℕ → Lit
positive v = record { var = v; positive = true }

-- the literal that the variable is out
abbrev pub negative : ℕ → Lit
negative v = record { var = v; positive = false }

-- the literal that says the opposite
abbrev pub denial : Lit → Lit
denial l = record { var = l.var; positive = not l.positive }

-- two literals are one
abbrev pub is_same : Lit → Lit → Bool
is_same l m = (l.var == m.var) && beq l.positive m.positive

-- the literal is one of these
abbrev pub is_in : List Lit → Lit → Bool
is_in lits l = list_any (λ m. is_same m l) lits

-- the literal is true of the set
abbrev pub lit_holds : (ℕ → Bool) → Lit → Bool
lit_holds set l = cond l.positive (set l.var) (not (set l.var))

-- one of the literals is true of the set
abbrev pub clause_holds : (ℕ → Bool) → List Lit → Bool
clause_holds set lits = list_any (λ l. lit_holds set l) lits

-- one more than most of the members, each once
abbrev pub is_too_many : ℕ → List ℕ → List ℕ → Bool
is_too_many most members named =
    (length named == (most + 1)) && (is_distinct named && list_all (λ v. is_among members v) named)

-- the clause that the constraint of the variable v gives; members are named for AtMost alone
abbrev pub given_clause : ℕ → Constraint → List ℕ → Option (List Lit)
given_clause v Mandatory [] = Some (positive v ∷ [])
given_clause v Prohibited [] = Some (negative v ∷ [])
given_clause v (Dependency members) [] = Some (negative v ∷ map positive members)
given_clause v (Conflict other) [] = Some (negative v ∷ negative other ∷ [])
given_clause v (AtMost most members) named = cond (is_too_many most members named) (Some (map negative named)) None
given_clause _ _ _ = None
