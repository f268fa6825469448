-- How a trail is kept: the entries, and of each variable what is known.
use Rattle.std.specs.Prelude.{◌≡◌, ℕ, ◌≤◌, Bool, true, false, List, length, slice_index_or, Option, Some, None}
use mathlib.Core.Bool.{beq}
use Rattle.op_constraints.specs.declared.Lit.{Lit}
use Rattle.op_constraints.specs.declared.TheConstants.{VAR_LIMIT}
use Rattle.derivations.specs.Clauses.{is_in}
use Rattle.clause_trail.specs.declared.Entry.{Entry}
use Rattle.clause_trail.specs.Trails.{literals, IsOrdered}

abbrev pub says : Option Bool → Bool → Bool
says None positive = false
says (Some known) positive = beq known positive

-- the literal is true by what is known
abbrev pub is_said : List (Option Bool) → Lit → Bool
is_said known l = says (slice_index_or known l.var None) l.positive

-- what is known is what the entries say
pub record IsKept (known : List (Option Bool)) (entries : List Entry) : Type 0 where
  pub few : length known ≤ VAR_LIMIT
  pub ordered : IsOrdered (length known) entries
  pub agrees : (l : Lit) → is_in (literals entries) l ≡ is_said known l
