-- How a clause is read, literal by literal, against what is known.
use Rattle.std.specs.Prelude.{Bool, true, false, not, cond, ◌&&◌, nat_lt, length, is_none, List, [], ◌∷◌, Option, Some, None, Result, Ok, Err, slice_index_or, slice_set}
use mathlib.Core.Bool.{beq}
use Rattle.op_constraints.specs.declared.Constraint.{Constraint}
use Rattle.derivations.specs.declared.Hint.{Hint}
use Rattle.derivations.specs.declared.LogCause.{LogCause}
use Rattle.derivations.specs.declared.LogCause.TheVariants.{NoConflict}
use Rattle.derivations.specs.Follows.{clause_of, after_forced}
use Rattle.op_constraints.specs.declared.Lit.{Lit}
use Rattle.derivations.specs.Clauses.{denial, is_same}
use Rattle.derivation_check.specs.declared.scan.Left.{Left}
use Rattle.derivation_check.specs.declared.scan.Left.TheVariants.{Nothing, Only, Several}

abbrev pub says : Option Bool → Bool → Bool
says None positive = false
says (Some known) positive = beq known positive

-- the literal is true by what is known
abbrev pub is_said : List (Option Bool) → Lit → Bool
is_said known l = says (slice_index_or known l.var None) l.positive

abbrev pub joined : Left → Lit → Left
joined Nothing l = Only l
joined (Only m) l = cond (is_same l m) (Only m) Several
joined Several l = Several

abbrev pub added : List (Option Bool) → Left → Lit → Left
added known left l = cond (is_said known (denial l)) left (joined left l)

-- what is left of the clause, after what was left before it
abbrev pub scanned : List (Option Bool) → Left → List Lit → Left
scanned known before [] = before
scanned known before (l ∷ ls) = scanned known (added known before l) ls

-- one step of the rest, where the clause leaves one literal that isn't true
abbrev pub forced_by : List (Option Bool) → Left → Option Lit
forced_by known Nothing = None
forced_by known (Only l) = cond (is_said known l) None (Some l)
forced_by known Several = None

abbrev pub is_conflict : Left → Bool
is_conflict Nothing = true
is_conflict _ = false

abbrev pub left_of : List (Option Bool) → Result (List Lit) LogCause → Result Left LogCause
left_of known (Err cause) = Err cause
left_of known (Ok clause) = Ok (scanned known Nothing clause)

abbrev pub last_answer : Result Left LogCause → Option LogCause
last_answer (Err cause) = Some cause
last_answer (Ok left) = cond (is_conflict left) None (Some NoConflict)

abbrev pub unit_answer : List (Option Bool) → Result Left LogCause → (Lit → Option LogCause) → Option LogCause
unit_answer known (Err cause) rest = Some cause
unit_answer known (Ok left) rest = after_forced (forced_by known left) rest

-- the first fault of the hints, by what is known of each variable
abbrev pub answer_from : List (List Constraint) → List (List Lit) → List (Option Bool) → Hint → List Hint → Option LogCause
answer_from problem earlier known hint [] = last_answer (left_of known (clause_of problem earlier hint))
answer_from problem earlier known hint (next ∷ hints) =
    unit_answer known (left_of known (clause_of problem earlier hint)) (λ l. answer_from problem earlier (slice_set known l.var (Some l.positive)) next hints)

abbrev pub answer : List (List Constraint) → List (List Lit) → List (Option Bool) → List Hint → Option LogCause
answer problem earlier known [] = Some NoConflict
answer problem earlier known (hint ∷ hints) = answer_from problem earlier known hint hints

-- what is known after the literals are denied
abbrev pub denied_in : List (Option Bool) → List Lit → List (Option Bool)
denied_in known [] = known
denied_in known (l ∷ ls) = denied_in (slice_set known l.var (Some (not l.positive))) ls

-- each literal, as the ones before it are denied, is of a variable that is there and of which nothing is known
abbrev pub are_new : List (Option Bool) → List Lit → Bool
are_new known [] = true
are_new known (l ∷ ls) = (nat_lt l.var (length known) && is_none (slice_index_or known l.var None)) && are_new (slice_set known l.var (Some (not l.positive))) ls
