-- What the definitions promise together.
use Rattle.std.specs.Prelude.{◌≡◌, ◌↔◌, ℕ, Bool, true, List, ◌++◌, Some, Ok, length, ◌+◌, ◌≤◌}
use Rattle.std.specs.List.{AllByRecursion}
use Rattle.op_constraints.specs.declared.Lit.{Lit}
use Rattle.op_constraints.specs.declared.Constraint.{Constraint}
use Rattle.op_constraints.specs.Meets.{constraint_at, is_true_of, Meets}
use Rattle.derivations.specs.declared.Hint.{Hint}
use Rattle.derivations.specs.declared.Lemma.{Lemma}
use Rattle.derivations.specs.declared.Certificate.{Certificate}
use Rattle.derivations.specs.declared.Finding.{Finding}
use Rattle.derivations.specs.declared.Finding.TheVariants.{Chosen, Refused, Undecided}
use Rattle.derivations.specs.Accepted.{IsAccepted}
use Rattle.op_constraints.specs.Walks.{IsBest}
use Rattle.derivations.specs.Text.{certificate_text}
use Rattle.derivations.specs.Fits.{CertificateFits}
use Rattle.derivations.specs.Reading.{certificate_of}
use Rattle.derivations.specs.Clauses.{given_clause, clause_holds}
use Rattle.op_constraints.specs.Kept.{HasDistinctMembers}
use Rattle.derivations.specs.Follows.{clauses, Follows, LogFollows}

-- each clause holds of the set
abbrev pub AllHold : (ℕ → Bool) → List (List Lit) → Type 0
AllHold set clauses = AllByRecursion (λ clause. clause_holds set clause ≡ true) clauses

-- a clause that a constraint gives holds of every set of which the constraint is true
abbrev pub GivenClausesHold : Type 0
GivenClausesHold =
    (set : ℕ → Bool) (v : ℕ) (c : Constraint) (named : List ℕ) (clause : List Lit)
    → is_true_of set v c ≡ true
    → given_clause v c named ≡ Some clause
    → clause_holds set clause ≡ true

-- each clause that the problem gives holds of the set
abbrev pub GivenHold : List (List Constraint) → (ℕ → Bool) → Type 0
GivenHold problem set =
    (v place : ℕ) (c : Constraint) (named : List ℕ) (clause : List Lit)
    → constraint_at problem v place ≡ Some c
    → given_clause v c named ≡ Some clause
    → clause_holds set clause ≡ true

-- a set meets a problem exactly where every given clause holds of it. Each problem has each member of AtMost once
abbrev pub ClausesAreTheProblem : Type 0
ClausesAreTheProblem =
    (problem : List (List Constraint)) (set : ℕ → Bool)
    → AllByRecursion (λ cs. AllByRecursion HasDistinctMembers cs) problem
    → Meets problem set ↔ GivenHold problem set

-- a clause that follows holds of every set that meets the problem and of which the lemmas hold
abbrev pub FollowingHolds : Type 0
FollowingHolds =
    (problem : List (List Constraint)) (log : List Lemma) (lits : List Lit) (hints : List Hint) (set : ℕ → Bool)
    → Follows problem log lits hints
    → Meets problem set
    → AllHold set (clauses log)
    → clause_holds set lits ≡ true

-- a log that follows holds only clauses that hold of every set that meets the problem
abbrev pub LogHolds : Type 0
LogHolds =
    (problem : List (List Constraint)) (log : List Lemma) (set : ℕ → Bool)
    → LogFollows problem log
    → Meets problem set
    → AllHold set (clauses log)

-- what follows from a log follows from every longer one
abbrev pub LongerLogsKeep : Type 0
LongerLogsKeep =
    (problem : List (List Constraint)) (log more : List Lemma) (lits : List Lit) (hints : List Hint)
    → Follows problem log lits hints
    → Follows problem (log ++ more) lits hints

-- what an accepted finding says of the problem
abbrev pub IsRight : List (List Constraint) → Finding → Type 0
IsRight problem (Chosen numbers steps) = IsBest problem numbers
IsRight problem (Refused refutation) = (set : ℕ → Bool) → Meets problem set → ⊥
IsRight problem Undecided = Unit {0}

-- an accepted walk is best, and where a refusal is accepted no set meets the problem
abbrev pub AcceptedIsRight : Type 0
AcceptedIsRight = (problem : List (List Constraint)) (certificate : Certificate) → IsAccepted problem certificate → IsRight problem certificate.finding

-- a text that is read as a certificate is the spelling of it, so no other text is read
abbrev pub ReadIsWritten : Type 0
ReadIsWritten = (text : List ℕ) (certificate : Certificate) → certificate_of text ≡ Ok certificate → text ≡ certificate_text certificate

-- the spelling of a certificate is read as the certificate exactly where its numbers fit 32 bits
abbrev pub WrittenIsRead : Type 0
WrittenIsRead = (certificate : Certificate) → CertificateFits certificate ↔ (certificate_of (certificate_text certificate) ≡ Ok certificate)

-- the walk's numbers and the refutations of a finding
abbrev pub entries : Finding → ℕ
entries (Chosen numbers steps) = length numbers + length steps
entries (Refused refutation) = 1
entries Undecided = 0

-- what is read has no more lemmas, walk numbers and refutations together than its text has bytes
abbrev pub ReadIsBounded : Type 0
ReadIsBounded = (text : List ℕ) (certificate : Certificate) → certificate_of text ≡ Ok certificate → length certificate.log.lemmas + entries certificate.finding ≤ length text
