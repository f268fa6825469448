-- Trails whose literals stand there by causes that hold.
use Rattle.std.specs.Prelude.{◌≡◌, Bool, true, false, List, [], ◌∷◌, Some, Ok, length}
use Rattle.std.specs.List.{list_all, filter}
use Rattle.op_constraints.specs.declared.Lit.{Lit}
use Rattle.op_constraints.specs.declared.Constraint.{Constraint}
use Rattle.derivations.specs.Follows.{clause_of, forced}
use Rattle.clause_trail.specs.declared.Cause.{Cause}
use Rattle.clause_trail.specs.declared.Cause.TheVariants.{Assumed, Decided, Forced}
use Rattle.clause_trail.specs.declared.Entry.{Entry}
use Rattle.clause_trail.specs.Trails.{Seen, literals}
use Rattle.clause_trail.specs.Scans.{AllSettled}

abbrev pub is_assumed : Cause → Bool
is_assumed Assumed = true
is_assumed Decided = false
is_assumed (Forced reason) = false

abbrev pub is_decided : Cause → Bool
is_decided Assumed = false
is_decided Decided = true
is_decided (Forced reason) = false

-- the literals that are assumed
abbrev pub assumed : List Entry → List Lit
assumed entries = literals (filter (λ e. is_assumed e.cause) entries)

-- after the older entries the literal stands by its cause: it was assumed, as each of them was; or it was decided, when they had settled every clause; or a clause forced it
abbrev pub Stands : List (List Constraint) → List (List Lit) → List Entry → Lit → Cause → Type 0
Stands problem earlier older l Assumed = list_all (λ e. is_assumed e.cause) older ≡ true
Stands problem earlier older l Decided = AllSettled problem earlier (literals older)
Stands problem earlier older l (Forced reason) = (clause_of problem earlier reason.hint ≡ Ok reason.lits) × (forced (literals older) reason.lits ≡ Some l)

-- each literal stands by its cause, after those that are older
abbrev pub AllStand : List (List Constraint) → List (List Lit) → List Entry → Type 0
AllStand problem earlier [] = Unit {0}
AllStand problem earlier (e ∷ es) = Stands problem earlier es e.lit e.cause × AllStand problem earlier es

-- a trail of the problem's variables whose literals stand by the clauses of the problem and the earlier ones
pub record IsCaused (problem : List (List Constraint)) (earlier : List (List Lit)) (trail : Seen) : Type 0 where
  pub size : trail.size ≡ length problem
  pub stand : AllStand problem earlier trail.entries
