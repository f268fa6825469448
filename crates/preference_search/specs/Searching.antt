-- What a search keeps as it goes through the partial walks in their order.
use Rattle.std.specs.Prelude.{◌≡◌, ℕ, ◌+◌, ◌<◌, ◌≤◌, Bool, true, List, [], ◌∷◌, ◌++◌, length, map, take, Some}
use Rattle.std.specs.List.{AllByRecursion}
use Rattle.op_constraints.specs.declared.Constraint.{Constraint}
use Rattle.op_constraints.specs.declared.TheConstants.{VAR_LIMIT}
use Rattle.op_constraints.specs.Walks.{is_among, waiting, member, walk, IsBefore, IsBest, IsPartial, AreRising}
use Rattle.op_constraints.specs.WalkInvariant.{Stands}
use Rattle.op_constraints.specs.Trails.{NoneBefore}
use Rattle.derivations.specs.declared.Lemma.{Lemma}
use Rattle.derivations.specs.declared.Refutation.{Refutation}
use Rattle.derivations.specs.Clauses.{negative, is_in}
use Rattle.derivations.specs.Follows.{clauses, LogFollows}
use Rattle.derivations.specs.Accepted.{pairs_from, IsIrredundant}
use Rattle.preference_search.specs.Denials.{IsDenial, IsUndenied}

-- a candidate that was passed over: with all that was chosen before it, it is denied by a clause that names it
pub record IsPassedOver (problem : List (List Constraint)) (log : List Lemma) (numbers : List ℕ) (step : ℕ × ℕ × Refutation) : Type 0 where
  pub chosen : List ℕ
  pub candidate : ℕ
  pub walked : walk problem (take step.0 numbers) ≡ Some chosen
  pub offered : member (waiting problem chosen) step.1 ≡ Some candidate
  pub denial : IsDenial problem log (is_among (chosen ++ candidate ∷ [])) step.2
  pub named : is_in step.2.lits (negative candidate) ≡ true

-- at each choice every candidate below the number taken was passed over, in order
pub record ArePassedOver (problem : List (List Constraint)) (log : List Lemma) (numbers : List ℕ) (steps : List (ℕ × ℕ × Refutation)) : Type 0 where
  pub complete : map (λ s. (s.0, s.1)) steps ≡ pairs_from 0 numbers
  pub each : AllByRecursion (IsPassedOver problem log numbers) steps

-- at least so many partial walks were tried, all of them before these numbers, and none after the best one
pub record HasTried (problem : List (List Constraint)) (next : List ℕ) (number : ℕ) : Type 0 where
  pub walks : List (List ℕ)
  pub many : number ≤ length walks
  pub rising : AreRising walks
  pub partial : AllByRecursion (IsPartial problem) walks
  pub early : (best : List ℕ) → IsBest problem best → AllByRecursion (λ ks. IsBefore best ks → ⊥) walks
  pub before : AllByRecursion (λ ks. IsBefore ks next) walks

-- the lemmas follow, waste nothing, and are no more than the budget
pub record IsLog (problem : List (List Constraint)) (budget : ℕ) (log : List Lemma) : Type 0 where
  pub follows : LogFollows problem log
  pub irredundant : IsIrredundant problem [] (clauses log)
  pub within : length log ≤ budget

-- no given clause and no lemma denies what was chosen before the last number
abbrev pub IsUndeniedBefore : List (List Constraint) → List Lemma → List ℕ → List ℕ → Type 0
IsUndeniedBefore problem log chosen numbers =
    (before : List ℕ) (v k : ℕ) (ks : List ℕ) → chosen ≡ before ++ v ∷ [] → numbers ≡ ks ++ k ∷ [] → IsUndenied problem log (is_among before)

-- at a partial walk: the earlier candidates are passed over, and at least so many partial walks were tried
pub record IsAt (problem : List (List Constraint)) (budget : ℕ) (log : List Lemma) (numbers chosen : List ℕ) (bits : List Bool) (steps : List (ℕ × ℕ × Refutation)) (after count : ℕ) : Type 0 where
  pub stands : Stands problem bits chosen numbers
  pub small : AllByRecursion (λ k. k < VAR_LIMIT) numbers
  pub sound : IsLog problem budget log
  pub passed : ArePassedOver problem log numbers steps
  pub none_before : NoneBefore problem numbers
  pub tried : HasTried problem (numbers ++ after ∷ []) count
  pub undenied : IsUndeniedBefore problem log chosen numbers

-- at a partial walk, of whose choice the first candidates are passed over; each lemma has a partial walk of its own, and so has each one on the way here
pub record IsTrying (problem : List (List Constraint)) (budget : ℕ) (log : List Lemma) (numbers chosen : List ℕ) (bits : List Bool) (steps : List (ℕ × ℕ × Refutation)) (number : ℕ) : Type 0 where
  pub stands : Stands problem bits chosen numbers
  pub small : AllByRecursion (λ k. k < VAR_LIMIT) numbers
  pub sound : IsLog problem budget log
  pub passed : ArePassedOver problem log (numbers ++ number ∷ []) steps
  pub none_before : NoneBefore problem (numbers ++ number ∷ [])
  pub tried : HasTried problem (numbers ++ number ∷ []) (length log + length numbers)
  pub undenied : IsUndenied problem log (is_among chosen)
