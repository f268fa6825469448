-- What a solver is, how it begins, and what it answers.
use Rattle.std.specs.Prelude.{◌≡◌, ℕ, true, cond, List, [], ◌∷◌}
use Rattle.op_constraints.specs.declared.Lit.{Lit}
use Rattle.op_constraints.specs.declared.Constraint.{Constraint}
use Rattle.op_constraints.specs.Meets.{at, Meets}
use Rattle.op_constraints.specs.Walks.{is_among}
use Rattle.derivations.specs.declared.Lemma.{Lemma}
use Rattle.derivations.specs.Clauses.{positive, is_in}
use Rattle.derivations.specs.Accepted.{Refutes}
use Rattle.clause_trail.specs.declared.Cause.TheVariants.{Assumed}
use Rattle.clause_trail.specs.declared.Entry.{Entry}
use Rattle.clause_trail.specs.Trails.{literals}
use Rattle.clause_solver.specs.declared.searching.Answer.{Answer}
use Rattle.clause_solver.specs.declared.searching.Answer.TheVariants.{Model, Refuted, Spent}

-- a solver as contracts see it
pub record Holding : Type 0 where
  pub problem : List (List Constraint)
  pub lemmas : List (List Lit)

-- the variable is assumed to be in, unless it is already
abbrev pub with_assumed : List Entry → ℕ → List Entry
with_assumed entries v = cond (is_in (literals entries) (positive v)) entries (record { lit = positive v; cause = Assumed } ∷ entries)

-- these variables are assumed to be in, one after the other
abbrev pub with_all : List Entry → List ℕ → List Entry
with_all entries [] = entries
with_all entries (v ∷ vs) = with_all (with_assumed entries v) vs

-- a set that meets the problem and has all that is assumed; or a refutation that follows from the log and denies assumed variables alone; or no budget is left
abbrev pub Solves : List (List Constraint) → List ℕ → List Lemma → ℕ → Answer → Type 0
Solves problem vars log left (Model set) = Meets problem (at set) × ((v : ℕ) → is_among vars v ≡ true → at set v ≡ true)
Solves problem vars log left (Refuted refutation) = Refutes problem log vars refutation
Solves problem vars log left Spent = left ≡ 0
