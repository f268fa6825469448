-- What a decision says of its problem and its budget.
use Rattle.std.specs.Prelude.{◌≡◌, ℕ, ◌≤◌, Bool, List, [], length, Some}
use Rattle.op_constraints.specs.declared.Constraint.{Constraint}
use Rattle.op_constraints.specs.Meets.{at, Meets}
use Rattle.op_constraints.specs.Walks.{is_among, walk, IsBest, IsWide, FirstSucceeds}
use Rattle.derivations.specs.declared.Certificate.{Certificate}
use Rattle.derivations.specs.declared.Finding.{Finding}
use Rattle.derivations.specs.declared.Finding.TheVariants as findings
use Rattle.derivations.specs.Follows.{clauses}
use Rattle.derivations.specs.Accepted.{IsAccepted, IsIrredundant}
use Rattle.preference_search.specs.declared.Decision.{Decision}
use Rattle.preference_search.specs.declared.Decision.TheVariants.{Chosen, Refused, Undecided}

-- the certificate is accepted, and its log wastes nothing and has no more lemmas than the budget
pub record IsFair (problem : List (List Constraint)) (budget : ℕ) (certificate : Certificate) : Type 0 where
  pub accepted : IsAccepted problem certificate
  pub irredundant : IsIrredundant problem [] (clauses certificate.log.lemmas)
  pub within : length certificate.log.lemmas ≤ budget

-- the finding is this walk
abbrev pub FindsWalk : Finding → List ℕ → Type 0
FindsWalk (findings.Chosen numbers steps) walk = numbers ≡ walk
FindsWalk (findings.Refused refutation) walk = ⊥
FindsWalk findings.Undecided walk = ⊥

-- the finding is a refusal
abbrev pub FindsNone : Finding → Type 0
FindsNone (findings.Chosen numbers steps) = ⊥
FindsNone (findings.Refused refutation) = Unit {0}
FindsNone findings.Undecided = ⊥

-- nothing was found
abbrev pub FindsNothing : Finding → Type 0
FindsNothing (findings.Chosen numbers steps) = ⊥
FindsNothing (findings.Refused refutation) = ⊥
FindsNothing findings.Undecided = Unit {0}

-- the walk is the best one, the certificate's is the same, and the set is everything that it chose
pub record IsChoice (problem : List (List Constraint)) (numbers : List ℕ) (set : List Bool) (certificate : Certificate) : Type 0 where
  pub found : FindsWalk certificate.finding numbers
  pub best : IsBest problem numbers
  pub chosen : List ℕ
  pub walked : walk problem numbers ≡ Some chosen
  pub size : length set ≡ length problem
  pub same : at set ≡ is_among chosen

-- the certificate refuses, and no set meets the problem
pub record IsRefusal (problem : List (List Constraint)) (certificate : Certificate) : Type 0 where
  pub found : FindsNone certificate.finding
  pub none : (set : ℕ → Bool) → Meets problem set → ⊥

-- the whole budget went into lemmas, the first walk doesn't succeed, and the problem is wide for the budget
pub record IsGivenUp (problem : List (List Constraint)) (budget : ℕ) (certificate : Certificate) : Type 0 where
  pub found : FindsNothing certificate.finding
  pub spent : length certificate.log.lemmas ≡ budget
  pub first_fails : FirstSucceeds problem → ⊥
  pub wide : IsWide problem budget

-- the decision is one for this problem and this budget
abbrev pub IsDecision : List (List Constraint) → ℕ → Decision → Type 0
IsDecision problem budget (Chosen numbers set certificate) = IsFair problem budget certificate × IsChoice problem numbers set certificate
IsDecision problem budget (Refused certificate) = IsFair problem budget certificate × IsRefusal problem certificate
IsDecision problem budget (Undecided certificate) = IsFair problem budget certificate × IsGivenUp problem budget certificate
