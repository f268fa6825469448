-- The partial walks that were tried, and that none of them comes after a walk that succeeds.
use Rattle.std.proofs.Common.{◌≡◌, ℕ, zero, suc, ◌+◌, ◌≤◌, ◌<◌, List, [], ◌∷◌, ◌++◌, sym, ap, ◌∙◌, subst, arith, inl, inr, Some, append_assoc}
use Rattle.std.proofs.lemmas.Bool.{cases_order}
use Rattle.std.proofs.lemmas.List.{length-append}
use Rattle.op_constraints.specs.declared.Constraint.{Constraint}
use Rattle.op_constraints.specs.Walks.{waiting, walk, zeros, Succeeds, IsBefore, IsPartial, IsWide, FirstSucceeds}
use Rattle.derivations.specs.declared.Lemma.{Lemma}
use Rattle.derivations.specs.declared.Refutation.{Refutation}
use Rattle.derivations.specs.Follows.{LogFollows}
use Rattle.derivations.specs.Accepted.{Refutes}
use Rattle.op_constraints.specs.Trails.{NoneBefore}
use Rattle.preference_search.specs.Searching.{HasTried}
use Rattle.op_constraints.proofs.Extending.{before-extended, before-more, before-next, before-first, rising-push, all-before}
use Rattle.op_constraints.proofs.Keeping.{all-push}
use Rattle.op_constraints.proofs.Trying.{some-there}
use Rattle.preference_search.proofs.Denying.{refuted-walks}

pub none-begun : (problem : List (List Constraint)) → NoneBefore problem []
none-begun problem = λ earlier b s. b

-- where a list waits, the walk that stands there doesn't succeed
pub none-down : (problem : List (List Constraint)) (ks chosen m : List ℕ) (ms : List (List ℕ)) → NoneBefore problem ks → walk problem ks ≡ Some chosen → waiting problem chosen ≡ m ∷ ms → NoneBefore problem (ks ++ 0 ∷ [])
none-down problem ks chosen m ms n w waits = λ earlier b s.
    elim (before-first earlier ks b) [
      | inl before ↦ n earlier before s
      | inr same ↦
          (let both : Some s.chosen ≡ Some chosen = sym s.walked ∙ (ap (walk problem) same ∙ w) in
          let is : s.chosen ≡ chosen = cc in
          let bad : [] ≡ m ∷ ms = sym s.full ∙ (ap (waiting problem) is ∙ waits) in cc)
    ]

-- where the walk is refuted, none that goes on from it succeeds
pub none-next : (problem : List (List Constraint)) (log : List Lemma) (ks vs : List ℕ) (k : ℕ) (r : Refutation) → NoneBefore problem (ks ++ k ∷ []) → LogFollows problem log → walk problem (ks ++ k ∷ []) ≡ Some vs → Refutes problem log vs r → NoneBefore problem (ks ++ (k + 1) ∷ [])
none-next problem log ks vs k r n l w i = λ earlier b s.
    elim (before-next earlier ks k b) [
      | inl before ↦ n earlier before s
      | inr (rest, same) ↦
          (let parts : earlier ≡ (ks ++ k ∷ []) ++ rest = same ∙ sym (append_assoc ks (k ∷ []) rest) in
          let P : List ℕ → Type 0 = λ js. Succeeds problem js in
          refuted-walks problem log vs (ks ++ k ∷ []) rest r l w i (subst P parts s))
    ]

pub none-up : (problem : List (List Constraint)) (ks rest : List ℕ) → NoneBefore problem (ks ++ rest) → NoneBefore problem ks
none-up problem ks rest n = λ earlier b s. n earlier (before-more earlier ks rest b) s

-- the walk of zeros comes before each list that ends in a later number
zeros-before : (n : ℕ) (ks : List ℕ) (k : ℕ) → IsBefore (zeros n) (ks ++ (k + 1) ∷ [])
zeros-before zero [] k = tt
zeros-before zero (i ∷ ks) k = tt
zeros-before (suc n) [] k = inl (omega arith)
zeros-before (suc n) (i ∷ ks) k =
    elim (cases_order 0 i) [
      | inl same ↦ inr (same, zeros-before n ks k)
      | inr (inl low) ↦ inl low
      | inr (inr high) ↦ absurd (omega (arith, high))
    ]

-- the first walk is one of those that fail
pub first-fails : (problem : List (List Constraint)) (ks : List ℕ) (k : ℕ) → NoneBefore problem (ks ++ (k + 1) ∷ []) → FirstSucceeds problem → ⊥
first-fails problem ks k n f = n (zeros f.0) (zeros-before f.0 ks k) f.1

pub tried-begun : (problem : List (List Constraint)) (next : List ℕ) → HasTried problem next 0
tried-begun problem next = record { walks = []; many = omega arith; rising = tt; partial = tt; early = λ best b. tt; before = tt }

-- one partial walk more
pub tried-enter : (problem : List (List Constraint)) (ks vs : List ℕ) (k n : ℕ) → HasTried problem (ks ++ k ∷ []) n → walk problem (ks ++ k ∷ []) ≡ Some vs → NoneBefore problem (ks ++ k ∷ []) → HasTried problem ((ks ++ k ∷ []) ++ 0 ∷ []) (n + 1)
tried-enter problem ks vs k n t w none =
    let here : List ℕ = ks ++ k ∷ [] in
    let later : IsBefore here (here ++ 0 ∷ []) = before-extended here 0 [] in
    record {
      walks = t.walks ++ here ∷ [];
      many = (let m = t.many in let size = length-append t.walks (here ∷ []) in omega (arith, m, size));
      rising = rising-push t.walks here t.rising t.before;
      partial = all-push (IsPartial problem) t.walks here t.partial (record { chosen = vs; walked = w; some = some-there ks k });
      early = λ best b. all-push (λ js. IsBefore best js → ⊥) t.walks here (t.early best b) (λ before. none best before b.succeeds);
      before = all-push (λ js. IsBefore js (here ++ 0 ∷ [])) t.walks here (all-before t.walks here (here ++ 0 ∷ []) t.before later) later;
    }

-- what was tried stays tried
pub tried-later : (problem : List (List Constraint)) (ks ls : List ℕ) (n m : ℕ) → HasTried problem ks n → IsBefore ks ls → m ≤ n → HasTried problem ls m
tried-later problem ks ls n m t b h = record {
  walks = t.walks;
  many = (let all = t.many in omega (arith, all, h));
  rising = t.rising;
  partial = t.partial;
  early = t.early;
  before = all-before t.walks ks ls t.before b;
}

-- where more were tried than this, the problem is wide
pub tried-wide : (problem : List (List Constraint)) (ks : List ℕ) (n m : ℕ) → HasTried problem ks n → m < n → IsWide problem m
tried-wide problem ks n m t h = record {
  walks = t.walks;
  many = (let all = t.many in omega (arith, all, h));
  rising = t.rising;
  partial = t.partial;
  early = t.early;
}
