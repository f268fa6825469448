-- What follows: with its literals denied, each hint in turn forces one literal more, and the last hint is false.
use Rattle.std.specs.Prelude.{◌≡◌, nat_lt, Bool, true, false, not, cond, ◌&&◌, List, [], ◌∷◌, ◌++◌, length, map, slice_get, Option, Some, None, Result, Ok, Err}
use Rattle.std.specs.Option.{option_and_then, option_map, option_or, ok_or}
use Rattle.std.specs.List.{list_all, filter}
use Rattle.op_constraints.specs.declared.Lit.{Lit}
use Rattle.op_constraints.specs.declared.Constraint.{Constraint}
use Rattle.op_constraints.specs.Meets.{constraint_at}
use Rattle.derivations.specs.declared.Hint.{Hint}
use Rattle.derivations.specs.declared.Hint.TheVariants.{Lemma as LemmaHint, Given}
use Rattle.derivations.specs.declared.Lemma.{Lemma}
use Rattle.derivations.specs.declared.LogCause.{LogCause}
use Rattle.derivations.specs.declared.LogCause.TheVariants.{BadClause, NoSuchHint, BadGiven, HintNotUnit, NoConflict}
use Rattle.derivations.specs.declared.LogFault.{LogFault}
use Rattle.derivations.specs.Clauses.{denial, is_same, is_in, given_clause}
use Rattle.op_constraints.specs.Kept.{is_distinct}

-- the clause that a hint names, of the problem or among the earlier ones
abbrev pub clause_of : List (List Constraint) → List (List Lit) → Hint → Result (List Lit) LogCause
clause_of problem earlier (LemmaHint number) = ok_or (slice_get earlier number) NoSuchHint
clause_of problem earlier (Given v place members) =
    ok_or (option_and_then (λ c. given_clause v c members) (constraint_at problem v place)) BadGiven

-- the literals of a clause that aren't false where those of the trail are true
abbrev pub left : List Lit → List Lit → List Lit
left trail clause = filter (λ l. not (is_in trail (denial l))) clause

-- the literal, where there is one and no other
abbrev pub sole : List Lit → Option Lit
sole [] = None
sole (l ∷ ls) = cond (list_all (λ m. is_same m l) ls) (Some l) None

-- the literal that the clause forces: the only one that isn't false, and it isn't true yet
abbrev pub forced : List Lit → List Lit → Option Lit
forced trail clause = option_and_then (λ l. cond (is_in trail l) None (Some l)) (sole (left trail clause))

-- what comes after the literal that a hint forces, which isn't the last
abbrev pub after_forced : Option Lit → (Lit → Option LogCause) → Option LogCause
after_forced None rest = Some HintNotUnit
after_forced (Some l) rest = rest l

-- the fault of a hint that isn't the last, and else of the rest
abbrev pub unit_fault : List Lit → Result (List Lit) LogCause → (Lit → Option LogCause) → Option LogCause
unit_fault trail (Err cause) rest = Some cause
unit_fault trail (Ok clause) rest = after_forced (forced trail clause) rest

-- no literal is there
abbrev pub is_nothing : List Lit → Bool
is_nothing [] = true
is_nothing (l ∷ ls) = false

-- the fault of the last hint
abbrev pub last_fault : List Lit → Result (List Lit) LogCause → Option LogCause
last_fault trail (Err cause) = Some cause
last_fault trail (Ok clause) = cond (is_nothing (left trail clause)) None (Some NoConflict)

-- the first fault of a hint and those after it, where the literals of the trail are true
abbrev pub hints_fault : List (List Constraint) → List (List Lit) → List Lit → Hint → List Hint → Option LogCause
hints_fault problem earlier trail hint [] = last_fault trail (clause_of problem earlier hint)
hints_fault problem earlier trail hint (next ∷ hints) =
    unit_fault trail (clause_of problem earlier hint) (λ l. hints_fault problem earlier (l ∷ trail) next hints)

-- the first fault of the hints; without a hint nothing is false
abbrev pub all_hints_fault : List (List Constraint) → List (List Lit) → List Lit → List Hint → Option LogCause
all_hints_fault problem earlier trail [] = Some NoConflict
all_hints_fault problem earlier trail (hint ∷ hints) = hints_fault problem earlier trail hint hints

-- each variable once, and each one of the problem
abbrev pub is_clause : List (List Constraint) → List Lit → Bool
is_clause problem lits =
    let vars = map (λ l. l.var) lits in list_all (λ v. nat_lt v (length problem)) vars && is_distinct vars

-- why the clause doesn't follow by these hints; none where it does
abbrev pub fault_of : List (List Constraint) → List (List Lit) → List Lit → List Hint → Option LogCause
fault_of problem earlier lits hints =
    cond (is_clause problem lits) (all_hints_fault problem earlier (map denial lits) hints) (Some BadClause)

-- the first lemma that doesn't follow from the problem and the earlier ones
abbrev pub log_fault : List (List Constraint) → List (List Lit) → List Lemma → Option LogFault
log_fault problem earlier [] = None
log_fault problem earlier (lemma ∷ lemmas) =
    option_or (option_map (λ cause. record { number = length earlier; cause = cause }) (fault_of problem earlier lemma.lits lemma.hints)) (log_fault problem (earlier ++ lemma.lits ∷ []) lemmas)

-- the clauses of a log
abbrev pub clauses : List Lemma → List (List Lit)
clauses lemmas = map (λ lemma. lemma.lits) lemmas

-- the clause follows from the problem and the log by these hints
abbrev pub Follows : List (List Constraint) → List Lemma → List Lit → List Hint → Type 0
Follows problem log lits hints = fault_of problem (clauses log) lits hints ≡ None

-- each lemma follows from the problem and the earlier ones
abbrev pub LogFollows : List (List Constraint) → List Lemma → Type 0
LogFollows problem log = log_fault problem [] log ≡ None
