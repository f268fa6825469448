-- What lemmas say over a trail.
use Rattle.std.specs.Prelude.{◌≡◌, ℕ, true, List, slice_get, Some, Ok}
use Rattle.op_constraints.specs.declared.Lit.{Lit}
use Rattle.op_constraints.specs.declared.Constraint.{Constraint}
use Rattle.derivations.specs.Follows.{clause_of, left, forced, is_nothing}
use Rattle.clause_trail.specs.declared.Scan.{Scan}
use Rattle.clause_trail.specs.declared.Scan.TheVariants.{Settled, Unit as Forces, Conflict}
use Rattle.clause_trail.specs.Trails.{IsSettled}

-- what the lemmas say over the trail
abbrev pub ScansLemmas : List (List Constraint) → List (List Lit) → List Lit → Scan → Type 0
ScansLemmas problem lemmas trail Settled = (number : ℕ) (clause : List Lit) → slice_get lemmas number ≡ Some clause → IsSettled trail clause
ScansLemmas problem lemmas trail (Forces l reason) = (clause_of problem lemmas reason.hint ≡ Ok reason.lits) × (forced trail reason.lits ≡ Some l)
ScansLemmas problem lemmas trail (Conflict reason) = (clause_of problem lemmas reason.hint ≡ Ok reason.lits) × (is_nothing (left trail reason.lits) ≡ true)
