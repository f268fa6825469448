-- Trails: literals that are true, the newest first, each of a variable of its own and with a cause.
use Rattle.std.specs.Prelude.{◌≡◌, ℕ, ◌<◌, Bool, true, false, ◌||◌, List, [], ◌∷◌, map, None}
use Rattle.op_constraints.specs.declared.Lit.{Lit}
use Rattle.derivations.specs.Clauses.{positive, negative, denial, is_in}
use Rattle.derivations.specs.Follows.{left, forced, is_nothing}
use Rattle.clause_trail.specs.declared.Entry.{Entry}

-- a trail of a problem of so many variables, as contracts see it: its entries, the newest first
pub record Seen : Type 0 where
  pub size : ℕ
  pub entries : List Entry

-- the literals of the entries
abbrev pub literals : List Entry → List Lit
literals entries = map (λ e. e.lit) entries

-- neither the literal nor its denial is true
abbrev pub IsUnknown : List Lit → Lit → Type 0
IsUnknown trail l = (is_in trail l ≡ false) × (is_in trail (denial l) ≡ false)

-- the variable is known to be in, or to be out
abbrev pub IsKnown : List Lit → ℕ → Type 0
IsKnown trail v = (is_in trail (positive v) || is_in trail (negative v)) ≡ true

-- each entry is of one of the first variables, of which the older entries say nothing
abbrev pub IsOrdered : ℕ → List Entry → Type 0
IsOrdered size [] = Unit {0}
IsOrdered size (e ∷ es) = (e.lit.var < size) × IsUnknown (literals es) e.lit × IsOrdered size es

-- the clause is not false over the trail, and forces nothing
pub record IsSettled (trail clause : List Lit) : Type 0 where
  pub unfalse : is_nothing (left trail clause) ≡ false
  pub quiet : forced trail clause ≡ None
