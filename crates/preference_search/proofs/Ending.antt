-- How a search begins, and what its ends decide.
use Rattle.std.proofs.Common.{◌≡◌, ℕ, ◌+◌, ◌≤◌, ◌<◌, Bool, List, [], ◌∷◌, ◌++◌, length, refl, sym, ap, ◌∙◌, subst, arith}
use Rattle.std.specs.List.{AllByRecursion}
use Rattle.std.proofs.lemmas.List.{length-append}
use Rattle.op_constraints.specs.declared.Constraint.{Constraint}
use Rattle.op_constraints.specs.declared.TheConstants.{VAR_LIMIT}
use Rattle.op_constraints.specs.Meets.{at, IsClosed, Meets}
use Rattle.op_constraints.specs.Kept.{IsKept}
use Rattle.op_constraints.specs.Walks.{is_among, mandatory, waiting, walk, IsBefore, Succeeds, IsBest, IsWide, FirstSucceeds}
use Rattle.op_constraints.proofs.Taking.{stands-begun}
use Rattle.derivations.specs.declared.Lemma.{Lemma}
use Rattle.derivations.specs.declared.Refutation.{Refutation}
use Rattle.derivations.specs.declared.Certificate.{Certificate}
use Rattle.derivations.specs.declared.Finding.TheVariants as findings
use Rattle.derivations.specs.Accepted.{Refutes, IsAccepted}
use Rattle.derivations.proofs.Best.{accepted_right}
use Rattle.preference_search.specs.declared.Decision.TheVariants.{Chosen, Refused, Undecided}
use Rattle.preference_search.specs.Decided.{IsDecision}
use Rattle.preference_search.specs.Denials.{AllowsSet}
use Rattle.preference_search.specs.Searching.{IsLog, IsAt}
use Rattle.preference_search.proofs.Full.{allowed-meets}
use Rattle.preference_search.proofs.Passing.{steps-shown}
use Rattle.preference_search.proofs.Trying.{none-begun, tried-begun}
use Rattle.preference_search.proofs.Going.{at-same}
use Rattle.preference_search.proofs.Measure.{measure, measure-less}

no-last : (ks : List ℕ) (k : ℕ) → [] ≡ ks ++ k ∷ [] → ⊥
no-last ks k e = let n = ap length e in let m = length-append ks (k ∷ []) in omega (arith, n, m)

-- a search begins at the walk without a number
pub begun : (problem : List (List Constraint)) (budget : ℕ) (log : List Lemma) (numbers chosen : List ℕ) (bits : List Bool) (steps : List (ℕ × ℕ × Refutation))
    → IsClosed problem → log ≡ [] → numbers ≡ [] → chosen ≡ mandatory problem → steps ≡ [] → length bits ≡ length problem → at bits ≡ is_among chosen
    → IsAt problem budget log numbers chosen bits steps 0 (length log + length numbers)
begun problem budget log numbers chosen bits steps closed l n c s size same =
    let sum : 0 ≡ length log + length numbers = omega (arith, ap length l, ap length n) in
    let P : ℕ → Type 0 = λ count. IsAt problem budget log numbers chosen bits steps 0 count in
    subst P sum (at-same problem budget [] log [] numbers chosen chosen bits bits [] steps 0 0 l n refl refl s
    (record {
      stands = stands-begun problem bits chosen closed c size same;
      small = tt;
      sound = record { follows = refl; irredundant = tt; within = omega arith };
      passed = record { complete = refl; each = tt };
      none_before = none-begun problem;
      tried = tried-begun problem (0 ∷ []);
      undenied = λ before v k ks _ e. absurd (no-last ks k e);
    }))

-- the walk was found
pub found-decision : (problem : List (List Constraint)) (budget vars : ℕ) (log : List Lemma) (numbers copy chosen : List ℕ) (bits set : List Bool) (steps : List (ℕ × ℕ × Refutation)) (after count : ℕ)
    → IsKept problem
    → vars ≡ length problem
    → IsAt problem budget log numbers chosen bits steps after count
    → waiting problem chosen ≡ []
    → AllowsSet problem (is_among chosen)
    → copy ≡ numbers
    → length set ≡ length problem
    → at set ≡ is_among chosen
    → IsDecision problem budget (Chosen copy set (record { vars = vars; log = record { lemmas = log }; finding = findings.Chosen numbers steps }))
found-decision problem budget vars log numbers copy chosen bits set steps after count kept size a full allowed same length_is set_is =
    let met : Meets problem (is_among chosen) = allowed-meets problem numbers chosen kept.distinct_members a.stands.walked full allowed in
    let succeeds : Succeeds problem numbers = record { chosen = chosen; walked = a.stands.walked; full = full; met = met } in
    let best : IsBest problem numbers = record { succeeds = succeeds; first = a.none_before } in
    let P : List ℕ → Type 0 = λ ns. IsBest problem ns in (
      record {
        accepted = record {
          size = size;
          log = a.sound.follows;
          finding = record { succeeds = succeeds; complete = a.passed.complete; each = steps-shown problem log numbers steps a.passed.each };
        };
        irredundant = a.sound.irredundant;
        within = a.sound.within;
      },
      record {
        found = sym same;
        best = subst P (sym same) best;
        chosen = chosen;
        walked = ap (walk problem) same ∙ a.stands.walked;
        size = length_is;
        same = set_is;
      },
    )

-- the mandatory variables were refuted
pub refused-decision : (problem : List (List Constraint)) (budget vars : ℕ) (log : List Lemma) (r : Refutation)
    → vars ≡ length problem
    → IsLog problem budget log
    → Refutes problem log (mandatory problem) r
    → IsDecision problem budget (Refused (record { vars = vars; log = record { lemmas = log }; finding = findings.Refused r }))
refused-decision problem budget vars log r size sound refutes =
    let certificate : Certificate = record { vars = vars; log = record { lemmas = log }; finding = findings.Refused r } in
    let accepted : IsAccepted problem certificate = record { size = size; log = sound.follows; finding = refutes } in (
      record { accepted = accepted; irredundant = sound.irredundant; within = sound.within },
      record { found = tt; none = accepted_right problem certificate accepted },
    )

-- the budget was spent
pub spent-decision : (problem : List (List Constraint)) (budget vars : ℕ) (log : List Lemma)
    → vars ≡ length problem
    → IsLog problem budget log
    → length log ≡ budget
    → (FirstSucceeds problem → ⊥)
    → IsWide problem budget
    → IsDecision problem budget (Undecided (record { vars = vars; log = record { lemmas = log }; finding = findings.Undecided }))
spent-decision problem budget vars log size sound spent first wide = (
  record { accepted = record { size = size; log = sound.follows; finding = tt }; irredundant = sound.irredundant; within = sound.within },
  record { found = tt; spent = spent; first_fails = first; wide = wide },
)

-- The measure

small-digits : (ks : List ℕ) → AllByRecursion (λ k. k < VAR_LIMIT) ks → AllByRecursion (λ k. k + 1 < VAR_LIMIT + 2) ks
small-digits [] a = tt
small-digits (k ∷ ks) a = let low = a.0 in (omega (arith, low), small-digits ks a.1)

pub later-less : (problem : List (List Constraint)) (js ks : List ℕ) → AllByRecursion (λ k. k < VAR_LIMIT) js → AllByRecursion (λ k. k < VAR_LIMIT) ks → length js ≤ length problem → length ks ≤ length problem → IsBefore js ks → measure (VAR_LIMIT + 2) (length problem) ks < measure (VAR_LIMIT + 2) (length problem) js
later-less problem js ks a b l m before = measure-less (VAR_LIMIT + 2) (length problem) js ks (omega arith) (small-digits js a) (small-digits ks b) l m before
