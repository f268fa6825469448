-- What a search keeps, said of its fields, and what a turn of it comes to.
use Rattle.std.specs.Prelude.{◌≡◌, ℕ, ◌+◌, ◌<◌, ◌≤◌, List, [], ◌∷◌, ◌++◌, length, map, Some}
use Rattle.std.specs.List.{AllByRecursion}
use Rattle.op_constraints.specs.declared.Constraint.{Constraint}
use Rattle.op_constraints.specs.declared.TheConstants.{VAR_LIMIT}
use Rattle.op_constraints.specs.Walks.{is_among, mandatory, member, waiting, IsWide, FirstSucceeds}
use Rattle.op_constraints.specs.WalkInvariant.{Stands}
use Rattle.op_constraints.specs.Trails.{NoneBefore}
use Rattle.derivations.specs.declared.Refutation.{Refutation}
use Rattle.derivations.specs.Clauses.{negative}
use Rattle.derivations.specs.Follows.{Follows}
use Rattle.derivations.specs.Accepted.{Refutes}
use Rattle.preference_search.specs.declared.search.Search.{Search}
use Rattle.preference_search.specs.declared.search.Turn.{Turn}
use Rattle.preference_search.specs.declared.search.Turn.TheVariants.{Onward, Found, Refused, Spent}
use Rattle.preference_search.specs.declared.search.Pass.{Pass}
use Rattle.preference_search.specs.declared.search.Pass.TheVariants.{Denied, Turned}
use Rattle.preference_search.specs.Denials.{IsDenial, AllowsSet, IsUndenied}
use Rattle.preference_search.specs.Searching.{ArePassedOver, HasTried, IsLog, IsAt, IsTrying}

abbrev pub At : List (List Constraint) → ℕ → Search → Type 0
At problem budget s = IsAt problem budget s.log.lemmas s.numbers.items s.chosen.items s.bits.items s.steps.items 0 (length s.log.lemmas + length s.numbers.items)

abbrev pub Trying : List (List Constraint) → ℕ → Search → ℕ → Type 0
Trying problem budget s number = IsTrying problem budget s.log.lemmas s.numbers.items s.chosen.items s.bits.items s.steps.items number

-- all candidates of the choice are denied, so the walk is denied by this clause, which follows
pub record IsClosing (problem : List (List Constraint)) (budget : ℕ) (s : Search) (refutation : Refutation) : Type 0 where
  pub number : ℕ
  pub stands : Stands problem s.bits.items s.chosen.items s.numbers.items
  pub small : AllByRecursion (λ k. k < VAR_LIMIT) s.numbers.items
  pub sound : IsLog problem budget s.log.lemmas
  pub passed : ArePassedOver problem s.log.lemmas s.numbers.items s.steps.items
  pub none_before : NoneBefore problem (s.numbers.items ++ number ∷ [])
  pub tried : HasTried problem (s.numbers.items ++ number ∷ []) (length s.log.lemmas + length s.numbers.items)
  pub undenied : IsUndenied problem s.log.lemmas (is_among s.chosen.items)
  pub lits : refutation.lits ≡ map negative s.chosen.items
  pub follows : Follows problem s.log.lemmas refutation.lits refutation.hints

-- the walk is full, and no given clause denies it
pub record IsFound (problem : List (List Constraint)) (budget : ℕ) (s : Search) : Type 0 where
  pub here : At problem budget s
  pub full : waiting problem s.chosen.items ≡ []
  pub allowed : AllowsSet problem (is_among s.chosen.items)

-- the mandatory variables can't all be in
pub record IsRefuted (problem : List (List Constraint)) (budget : ℕ) (s : Search) (refutation : Refutation) : Type 0 where
  pub sound : IsLog problem budget s.log.lemmas
  pub refutes : Refutes problem s.log.lemmas (mandatory problem) refutation

-- a lemma is wanted, and the budget is spent
pub record IsSpent (problem : List (List Constraint)) (budget : ℕ) (s : Search) : Type 0 where
  pub sound : IsLog problem budget s.log.lemmas
  pub spent : length s.log.lemmas ≡ budget
  pub first_fails : FirstSucceeds problem → ⊥
  pub wide : IsWide problem budget

-- the walk at which the search stands is denied
pub record IsDeniedAt (problem : List (List Constraint)) (budget : ℕ) (s : Search) (refutation : Refutation) : Type 0 where
  pub after : ℕ
  pub count : ℕ
  pub here : IsAt problem budget s.log.lemmas s.numbers.items s.chosen.items s.bits.items s.steps.items after count
  pub enough : length s.log.lemmas + length s.numbers.items ≤ count + 1
  pub denial : IsDenial problem s.log.lemmas (is_among s.chosen.items) refutation

-- the later numbers go on from a front of the others by one larger number
pub record IsPast (numbers later : List ℕ) : Type 0 where
  pub front : List ℕ
  pub low : ℕ
  pub high : ℕ
  pub rest : List ℕ
  pub was : numbers ≡ front ++ low ∷ rest
  pub is : later ≡ front ++ high ∷ []
  pub larger : low < high

-- what a turn comes to: the search stands at a walk of this kind, or has ended
abbrev pub Comes : List (List Constraint) → ℕ → (List ℕ → Type 0) → Search → Turn → Type 0
Comes problem budget Later s Onward = At problem budget s × Later s.numbers.items
Comes problem budget Later s Found = IsFound problem budget s
Comes problem budget Later s (Refused refutation) = IsRefuted problem budget s refutation
Comes problem budget Later s Spent = IsSpent problem budget s

-- what comes of a choice whose candidates before this number are passed over: the candidate is taken, or the walk is denied
abbrev pub Advanced : List (List Constraint) → ℕ → List ℕ → ℕ → Search → Pass → Type 0
Advanced problem budget numbers number s (Denied denial) = IsDeniedAt problem budget s denial × (s.numbers.items ≡ numbers)
Advanced problem budget numbers number s (Turned turn) = Comes problem budget (λ later. later ≡ numbers ++ number ∷ []) s turn

-- what comes of a walk that is denied: the search goes on past it, or a walk before it on the way is denied
abbrev pub PassedOver : List (List Constraint) → ℕ → List ℕ → Search → Pass → Type 0
PassedOver problem budget numbers s (Denied denial) = IsDeniedAt problem budget s denial × ((k : ℕ) × (rest : List ℕ) × (numbers ≡ s.numbers.items ++ k ∷ rest))
PassedOver problem budget numbers s (Turned turn) = Comes problem budget (IsPast numbers) s turn

-- the number picks a member of the list that waits
pub record IsOffered (problem : List (List Constraint)) (numbers chosen : List ℕ) (number : ℕ) : Type 0 where
  pub candidate : ℕ
  pub offered : member (waiting problem chosen) number ≡ Some candidate
