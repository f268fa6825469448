-- What is known as the partial walks are tried in their order.
use Rattle.std.specs.Prelude.{◌≡◌, ℕ, ◌<◌, ◌≤◌, Bool, List, [], ◌∷◌, ◌++◌, length, Option, Some, None}
use Rattle.std.specs.List.{AllByRecursion}
use Rattle.op_constraints.specs.declared.Constraint.{Constraint}
use Rattle.op_constraints.specs.declared.first.Trail.{Trail}
use Rattle.op_constraints.specs.declared.first.Tried.{Tried}
use Rattle.op_constraints.specs.Walks.{Succeeds, IsBefore, IsPartial, AreRising}
use Rattle.op_constraints.specs.WalkInvariant.{Stands}
use Rattle.op_constraints.specs.Tries.{IsTried}

-- no walk before these numbers succeeds
abbrev pub NoneBefore : List (List Constraint) → List ℕ → Type 0
NoneBefore problem numbers = (earlier : List ℕ) → IsBefore earlier numbers → Succeeds problem earlier → ⊥

-- partial walks that come before these numbers, each before the next
pub record AreEarlier (problem : List (List Constraint)) (numbers : List ℕ) (walks : List (List ℕ)) : Type 0 where
  pub rising : AreRising walks
  pub partial : AllByRecursion (IsPartial problem) walks
  pub before : AllByRecursion (λ ks. IsBefore ks numbers) walks

-- so many partial walks come before these numbers, and no more
pub record HasEarlier (problem : List (List Constraint)) (numbers : List ℕ) (count : ℕ) : Type 0 where
  pub walks : List (List ℕ)
  pub are : AreEarlier problem numbers walks
  pub size : length walks ≡ count
  pub most : (others : List (List ℕ)) → AreEarlier problem numbers others → length others ≤ count

-- what comes before this extension of the walk is tried: so many partial walks, of which none succeeds
pub record IsTrying (problem : List (List Constraint)) (tries : ℕ) (set : List Bool) (chosen numbers : List ℕ) (count number : ℕ) : Type 0 where
  pub stands : Stands problem set chosen numbers
  pub none_before : NoneBefore problem (numbers ++ number ∷ [])
  pub earlier : HasEarlier problem (numbers ++ number ∷ []) count
  pub within : count ≤ tries

-- the same of the walk itself, which is the last of them: whether it succeeds is open
pub record IsAt (problem : List (List Constraint)) (tries : ℕ) (set : List Bool) (chosen numbers : List ℕ) (count : ℕ) : Type 0 where
  pub stands : Stands problem set chosen numbers
  pub none_before : NoneBefore problem numbers
  pub earlier : HasEarlier problem (numbers ++ 0 ∷ []) count
  pub within : count ≤ tries

abbrev pub Trying : ℕ → Trail → ℕ → Type 0
Trying tries t number = IsTrying t.problem.now tries t.set t.chosen.items t.numbers.items t.count number

abbrev pub At : ℕ → Trail → Type 0
At tries t = IsAt t.problem.now tries t.set t.chosen.items t.numbers.items t.count

-- it stands at a partial walk more, or has ended
abbrev pub GoesOn : ℕ → ℕ → Trail → Option Tried → Type 0
GoesOn tries before t None = At tries t × before < t.count
GoesOn tries before t (Some end) = IsTried t.problem.now tries end
