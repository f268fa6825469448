-- Lists that are looked up by variable: where the clauses stand that name each one.
use Rattle.std.specs.Prelude.{◌≡◌, ℕ, ◌<◌, Bool, true, false, ◌==◌, List, [], ◌∷◌, length, slice_get, slice_index_or, Some}
use Rattle.op_constraints.specs.declared.Lit.{Lit}
use Rattle.op_constraints.specs.declared.Constraint.{Constraint}
use Rattle.op_constraints.specs.declared.Constraint.TheVariants.{Mandatory, Prohibited, Dependency, Conflict, AtMost}
use Rattle.op_constraints.specs.Meets.{constraint_at}
use Rattle.op_constraints.specs.Walks.{is_among}
use Rattle.derivations.specs.declared.Lemma.{Lemma}
use Rattle.derivations.specs.Clauses.{negative, is_in}
use Rattle.derivations.specs.Follows.{clauses}
use Rattle.preference_search.specs.declared.naming.Place.{Place}

-- the list of a variable; an empty one of one that has none
abbrev pub list_of : {T : Type 0} → List (List T) → ℕ → List T
list_of lists v = slice_index_or lists v []

-- the item stands in the list of the variable, where it has one
abbrev pub IsListed : {T : Type 0} → List (List T) → ℕ → T → Type 0
IsListed lists v item = v < length lists → (i : ℕ) × (slice_get (list_of lists v) i ≡ Some item)

-- each item stands there still
pub record IsGrown {T : Type 0} (lists more : List (List T)) : Type 0 where
  pub size : length more ≡ length lists
  pub kept : (v : ℕ) (item : T) → IsListed lists v item → IsListed more v item

-- a clause of the constraint of the variable v may deny sets, and names w
abbrev pub may_deny : ℕ → ℕ → Constraint → Bool
may_deny v w Mandatory = false
may_deny v w Prohibited = v == w
may_deny v w (Dependency []) = v == w
may_deny v w (Dependency (m ∷ ms)) = false
may_deny v w (Conflict other) = is_among (v ∷ other ∷ []) w
may_deny v w (AtMost most members) = is_among members w

-- each constraint is listed at each variable that it may deny
abbrev pub IsIndexed : List (List Constraint) → List (List Place) → Type 0
IsIndexed problem lists =
    (v number w : ℕ) (c : Constraint) → constraint_at problem v number ≡ Some c → may_deny v w c ≡ true → IsListed lists w (record { owner = v; constraint = number })

-- each lemma is listed at each variable that it denies
abbrev pub AreNamed : List Lemma → List (List ℕ) → Type 0
AreNamed log lists =
    (number w : ℕ) (clause : List Lit) → slice_get (clauses log) number ≡ Some clause → is_in clause (negative w) ≡ true → IsListed lists w number
