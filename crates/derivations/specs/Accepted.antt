-- Certificates that are accepted, and logs without waste. Nothing here asks how a search found them.
use Rattle.std.specs.Prelude.{◌≡◌, ℕ, ◌+◌, Bool, true, false, not, ◌&&◌, List, [], ◌∷◌, ◌++◌, length, map, take, Some}
use Rattle.std.specs.List.{list_any, list_all, AllByRecursion, range_with_len}
use Rattle.op_constraints.specs.declared.Lit.{Lit}
use Rattle.op_constraints.specs.declared.Constraint.{Constraint}
use Rattle.op_constraints.specs.Meets.{constraint_at}
use Rattle.op_constraints.specs.Walks.{is_among, mandatory, waiting, member, walk, Succeeds}
use Rattle.derivations.specs.declared.Lemma.{Lemma}
use Rattle.derivations.specs.declared.Refutation.{Refutation}
use Rattle.derivations.specs.declared.Certificate.{Certificate}
use Rattle.derivations.specs.declared.Finding.{Finding}
use Rattle.derivations.specs.declared.Finding.TheVariants.{Chosen, Refused, Undecided}
use Rattle.derivations.specs.Clauses.{denial, is_in, given_clause}
use Rattle.derivations.specs.Follows.{Follows, LogFollows}

-- the literal says that one of these is out
abbrev pub denies : List ℕ → Lit → Bool
denies vs l = not l.positive && is_among vs l.var

-- the refutation follows, and says of these alone that they can't all be in
abbrev pub Refutes : List (List Constraint) → List Lemma → List ℕ → Refutation → Type 0
Refutes problem log vs refutation =
    (list_all (λ l. denies vs l) refutation.lits ≡ true) × Follows problem log refutation.lits refutation.hints

-- each choice, from this number on, with each number below the one taken
abbrev pub pairs_from : ℕ → List ℕ → List (ℕ × ℕ)
pairs_from choice [] = []
pairs_from choice (number ∷ numbers) = map (λ j. (choice, j)) (range_with_len 0 number) ++ pairs_from (choice + 1) numbers

-- a choice, a candidate's number, and a refutation of the candidate beside what was chosen before
pub record IsStep (problem : List (List Constraint)) (log : List Lemma) (numbers : List ℕ) (step : ℕ × ℕ × Refutation) : Type 0 where
  pub chosen : List ℕ
  pub candidate : ℕ
  pub walked : walk problem (take step.0 numbers) ≡ Some chosen
  pub offered : member (waiting problem chosen) step.1 ≡ Some candidate
  pub refutes : Refutes problem log (candidate ∷ chosen) step.2

-- the walk succeeds, and for every choice and every number below the one taken there is exactly one step, in order
pub record IsShownBest (problem : List (List Constraint)) (log : List Lemma) (numbers : List ℕ) (steps : List (ℕ × ℕ × Refutation)) : Type 0 where
  pub succeeds : Succeeds problem numbers
  pub complete : map (λ s. (s.0, s.1)) steps ≡ pairs_from 0 numbers
  pub each : AllByRecursion (IsStep problem log numbers) steps

-- what each finding has to show; one that is undecided shows nothing
abbrev pub IsShown : List (List Constraint) → List Lemma → Finding → Type 0
IsShown problem log (Chosen numbers steps) = IsShownBest problem log numbers steps
IsShown problem log (Refused refutation) = Refutes problem log (mandatory problem) refutation
IsShown problem log Undecided = Unit {0}

-- the number of variables is the problem's, the log follows, and the finding is shown
pub record IsAccepted (problem : List (List Constraint)) (certificate : Certificate) : Type 0 where
  pub size : certificate.vars ≡ length problem
  pub log : LogFollows problem certificate.log.lemmas
  pub finding : IsShown problem certificate.log.lemmas certificate.finding

-- each literal of the second clause is in the first
abbrev pub contains_clause : List Lit → List Lit → Bool
contains_clause lits clause = list_all (λ l. is_in lits l) clause

-- the clause contains no clause that the problem gives
abbrev pub ContainsNoGiven : List (List Constraint) → List Lit → Type 0
ContainsNoGiven problem lits =
    (v place : ℕ) (c : Constraint) (named : List ℕ) (clause : List Lit)
    → constraint_at problem v place ≡ Some c
    → given_clause v c named ≡ Some clause
    → contains_clause lits clause ≡ false

-- the clause holds a literal and its denial
abbrev pub is_tautology : List Lit → Bool
is_tautology lits = list_any (λ l. is_in lits (denial l)) lits

-- no lemma is a tautology, or contains a given clause or an earlier lemma
abbrev pub IsIrredundant : List (List Constraint) → List (List Lit) → List (List Lit) → Type 0
IsIrredundant problem earlier [] = Unit {0}
IsIrredundant problem earlier (lits ∷ later) =
    (is_tautology lits ≡ false)
    × ContainsNoGiven problem lits
    × AllByRecursion (λ clause. contains_clause lits clause ≡ false) earlier
    × IsIrredundant problem (earlier ++ lits ∷ []) later
