-- The candidates that were passed over, as a search goes on and back.
use Rattle.std.proofs.Common.{◌≡◌, ℕ, zero, suc, ◌+◌, ◌≤◌, ◌<◌, true, List, [], ◌∷◌, ◌++◌, length, map, take, refl, sym, ap, ◌∙◌, subst, arith, inl, inr, Some, eqb, add-one, append_assoc}
use Rattle.std.proofs.Math.Seq.{take-append_seam}
use Rattle.std.specs.List.{AllByRecursion, range_with_len}
use Rattle.std.proofs.lemmas.Bool.{or_left, or_right, eq-eqb}
use Rattle.std.proofs.lemmas.List.{append-nil, length-append, take-append-le}
use Rattle.op_constraints.specs.declared.Constraint.{Constraint}
use Rattle.op_constraints.specs.Walks.{is_among, waiting, member, walk}
use Rattle.op_constraints.proofs.Keeping.{all-push}
use Rattle.op_constraints.proofs.Standing.{all-pop}
use Rattle.derivations.specs.declared.Lemma.{Lemma}
use Rattle.derivations.specs.declared.Refutation.{Refutation}
use Rattle.derivations.specs.Clauses.{negative, is_in}
use Rattle.derivations.specs.Accepted.{pairs_from, IsStep}
use Rattle.preference_search.specs.Denials.{IsDenial}
use Rattle.preference_search.specs.Searching.{IsPassedOver, ArePassedOver}
use Rattle.preference_search.proofs.Denying.{among-pushed, denial-more, denial-refutes, denial-grows}

-- Lists

pub snoc-same : {A : Type 0} (xs ys : List A) (x y : A) → xs ++ x ∷ [] ≡ ys ++ y ∷ [] → (xs ≡ ys) × (x ≡ y)
snoc-same [] [] x y e = (refl, (let same : x ≡ y = cc in same))
snoc-same [] (v ∷ ys) x y e = absurd (let n = ap length e in let m = length-append ys (y ∷ []) in omega (arith, n, m))
snoc-same (u ∷ xs) [] x y e = absurd (let n = ap length e in let m = length-append xs (x ∷ []) in omega (arith, n, m))
snoc-same (u ∷ xs) (v ∷ ys) x y e =
    let head : u ≡ v = cc in
    let rest : xs ++ x ∷ [] ≡ ys ++ y ∷ [] = cc in
    let tail = snoc-same xs ys x y rest in
    (ap (λ w. w ∷ xs) head ∙ ap (λ ws. v ∷ ws) tail.0, tail.1)

all-append : {A : Type 0} (P : A → Type 0) (xs ys : List A) → AllByRecursion P xs → AllByRecursion P ys → AllByRecursion P (xs ++ ys)
all-append P [] ys a b = b
all-append P (x ∷ xs) ys a b = (a.0, all-append P xs ys a.1 b)

all-unmap : {A B : Type 0} (P : B → Type 0) (f : A → B) (xs : List A) → AllByRecursion P (map f xs) → AllByRecursion (λ x. P (f x)) xs
all-unmap P f [] a = tt
all-unmap P f (x ∷ xs) a = (a.0, all-unmap P f xs a.1)

map-snoc : {A B : Type 0} (f : A → B) (xs : List A) (y : A) → map f (xs ++ y ∷ []) ≡ map f xs ++ f y ∷ []
map-snoc f [] y = refl
map-snoc f (x ∷ xs) y = ap (λ ys. f x ∷ ys) (map-snoc f xs y)

-- Pairs of a choice and a number below the one taken

range-push : (a n : ℕ) → range_with_len a (suc n) ≡ range_with_len a n ++ (a + n) ∷ []
range-push a zero = ap (λ k. k ∷ []) (let e : a ≡ a + 0 = omega arith in e)
range-push a (suc n) =
    let e : (a + 1) + n ≡ a + suc n = omega arith in
    ap (λ ks. a ∷ ks) (range-push (a + 1) n ∙ ap (λ k. range_with_len (a + 1) n ++ k ∷ []) e)

-- the pairs of one choice
abbrev pub at_choice : ℕ → ℕ → List (ℕ × ℕ)
at_choice c k = map (λ j. (c, j)) (range_with_len 0 k)

at_choice-more : (c k : ℕ) → at_choice c (k + 1) ≡ at_choice c k ++ (c, k) ∷ []
at_choice-more c k =
    let f : ℕ → ℕ × ℕ = λ j. (c, j) in
    let e : 0 + k ≡ k = omega arith in
    ap (λ n. map f (range_with_len 0 n)) (add-one k)
    ∙ (ap (map f) (range-push 0 k ∙ ap (λ i. range_with_len 0 k ++ i ∷ []) e)
    ∙ map-snoc f (range_with_len 0 k) k)

pairs-push : (c : ℕ) (ks : List ℕ) (k : ℕ) → pairs_from c (ks ++ k ∷ []) ≡ pairs_from c ks ++ at_choice (c + length ks) k
pairs-push c [] k = append-nil (at_choice c k) ∙ ap (λ n. at_choice n k) (let e : c ≡ c + 0 = omega arith in e)
pairs-push c (i ∷ ks) k =
    let e : (c + 1) + length ks ≡ c + suc (length ks) = omega arith in
    ap (λ ps. at_choice c i ++ ps) (pairs-push (c + 1) ks k ∙ ap (λ n. pairs_from (c + 1) ks ++ at_choice n k) e)
    ∙ sym (append_assoc (at_choice c i) (pairs_from (c + 1) ks) (at_choice (c + suc (length ks)) k))

pairs-first : (ks : List ℕ) → pairs_from 0 (ks ++ 0 ∷ []) ≡ pairs_from 0 ks
pairs-first ks = pairs-push 0 ks 0 ∙ append-nil (pairs_from 0 ks)

pairs-more : (ks : List ℕ) (k : ℕ) → pairs_from 0 (ks ++ (k + 1) ∷ []) ≡ pairs_from 0 (ks ++ k ∷ []) ++ (length ks, k) ∷ []
pairs-more ks k =
    let n : ℕ = 0 + length ks in
    let e : n ≡ length ks = omega arith in
    pairs-push 0 ks (k + 1)
    ∙ (ap (λ ps. pairs_from 0 ks ++ ps) (at_choice-more n k)
    ∙ (sym (append_assoc (pairs_from 0 ks) (at_choice n k) ((n, k) ∷ []))
    ∙ (ap (λ ps. ps ++ (n, k) ∷ []) (sym (pairs-push 0 ks k))
    ∙ ap (λ m. pairs_from 0 (ks ++ k ∷ []) ++ (m, k) ∷ []) e)))

all-at_choice : (c n a k : ℕ) → c < n → AllByRecursion (λ (q : ℕ × ℕ). q.0 < n) (map (λ j. (c, j)) (range_with_len a k))
all-at_choice c n a zero h = tt
all-at_choice c n a (suc k) h = (h, all-at_choice c n (a + 1) k h)

all-low : (xs : List (ℕ × ℕ)) (m n : ℕ) → m ≤ n → AllByRecursion (λ (q : ℕ × ℕ). q.0 < m) xs → AllByRecursion (λ (q : ℕ × ℕ). q.0 < n) xs
all-low [] m n h a = tt
all-low (x ∷ xs) m n h a = let low = a.0 in (omega (arith, low, h), all-low xs m n h a.1)

pairs-low : (c : ℕ) (ks : List ℕ) → AllByRecursion (λ (q : ℕ × ℕ). q.0 < c + length ks) (pairs_from c ks)
pairs-low c [] = tt
pairs-low c (k ∷ ks) =
    all-append (λ (q : ℕ × ℕ). q.0 < c + suc (length ks)) (at_choice c k) (pairs_from (c + 1) ks)
    (all-at_choice c (c + suc (length ks)) 0 k (omega arith))
    (all-low (pairs_from (c + 1) ks) ((c + 1) + length ks) (c + suc (length ks)) (omega arith) (pairs-low (c + 1) ks))

-- Steps

steps-low : (ks : List ℕ) (steps : List (ℕ × ℕ × Refutation)) → map (λ s. (s.0, s.1)) steps ≡ pairs_from 0 ks → AllByRecursion (λ (s : ℕ × ℕ × Refutation). s.0 < length ks) steps
steps-low ks steps e =
    let P : List (ℕ × ℕ) → Type 0 = λ ps. AllByRecursion (λ (q : ℕ × ℕ). q.0 < 0 + length ks) ps in
    let low = all-unmap (λ (q : ℕ × ℕ). q.0 < 0 + length ks) (λ (s : ℕ × ℕ × Refutation). (s.0, s.1)) steps (subst P (sym e) (pairs-low 0 ks)) in
    lower steps low
  where
    lower : (xs : List (ℕ × ℕ × Refutation)) → AllByRecursion (λ (s : ℕ × ℕ × Refutation). s.0 < 0 + length ks) xs → AllByRecursion (λ (s : ℕ × ℕ × Refutation). s.0 < length ks) xs
    lower [] a = tt
    lower (x ∷ xs) a = let low = a.0 in (omega (arith, low), lower xs a.1)

take-same : (i : ℕ) (ks xs ys : List ℕ) → i ≤ length ks → take i (ks ++ xs) ≡ take i (ks ++ ys)
take-same i ks xs ys h = take-append-le i ks xs h ∙ sym (take-append-le i ks ys h)

-- a step speaks only of the numbers before its choice
step-moves : (problem : List (List Constraint)) (log : List Lemma) (ks xs ys : List ℕ) (s : ℕ × ℕ × Refutation) → s.0 ≤ length ks → IsPassedOver problem log (ks ++ xs) s → IsPassedOver problem log (ks ++ ys) s
step-moves problem log ks xs ys s h p = record {
  chosen = p.chosen;
  candidate = p.candidate;
  walked = ap (walk problem) (take-same s.0 ks ys xs h) ∙ p.walked;
  offered = p.offered;
  denial = p.denial;
  named = p.named;
}

steps-move : (problem : List (List Constraint)) (log : List Lemma) (ks xs ys : List ℕ) (steps : List (ℕ × ℕ × Refutation)) → AllByRecursion (λ (s : ℕ × ℕ × Refutation). s.0 ≤ length ks) steps → AllByRecursion (IsPassedOver problem log (ks ++ xs)) steps → AllByRecursion (IsPassedOver problem log (ks ++ ys)) steps
steps-move problem log ks xs ys [] low a = tt
steps-move problem log ks xs ys (s ∷ steps) low a = (step-moves problem log ks xs ys s low.0 a.0, steps-move problem log ks xs ys steps low.1 a.1)

low-or_last : (ks : List ℕ) (k : ℕ) (steps : List (ℕ × ℕ × Refutation)) → AllByRecursion (λ (s : ℕ × ℕ × Refutation). s.0 < length (ks ++ k ∷ [])) steps → AllByRecursion (λ (s : ℕ × ℕ × Refutation). s.0 ≤ length ks) steps
low-or_last ks k [] a = tt
low-or_last ks k (s ∷ steps) a = let low = a.0 in let n = length-append ks (k ∷ []) in (omega (arith, low, n), low-or_last ks k steps a.1)

less-or_same : (n : ℕ) (steps : List (ℕ × ℕ × Refutation)) → AllByRecursion (λ (s : ℕ × ℕ × Refutation). s.0 < n) steps → AllByRecursion (λ (s : ℕ × ℕ × Refutation). s.0 ≤ n) steps
less-or_same n [] a = tt
less-or_same n (s ∷ steps) a = let low = a.0 in (omega (arith, low), less-or_same n steps a.1)

-- at a new choice nothing is passed over yet
pub passed-down : (problem : List (List Constraint)) (log : List Lemma) (ks : List ℕ) (steps : List (ℕ × ℕ × Refutation)) → ArePassedOver problem log ks steps → ArePassedOver problem log (ks ++ 0 ∷ []) steps
passed-down problem log ks steps p =
    let P : List ℕ → Type 0 = λ ns. AllByRecursion (IsPassedOver problem log ns) steps in
    record {
      complete = p.complete ∙ sym (pairs-first ks);
      each = steps-move problem log ks [] (0 ∷ []) steps (less-or_same (length ks) steps (steps-low ks steps p.complete)) (subst P (sym (append-nil ks)) p.each);
    }

-- and back
pub passed-up : (problem : List (List Constraint)) (log : List Lemma) (ks : List ℕ) (steps : List (ℕ × ℕ × Refutation)) → ArePassedOver problem log (ks ++ 0 ∷ []) steps → ArePassedOver problem log ks steps
passed-up problem log ks steps p =
    let P : List ℕ → Type 0 = λ ns. AllByRecursion (IsPassedOver problem log ns) steps in
    let complete : map (λ s. (s.0, s.1)) steps ≡ pairs_from 0 ks = p.complete ∙ pairs-first ks in
    record {
      complete = complete;
      each = subst P (append-nil ks) (steps-move problem log ks (0 ∷ []) [] steps (less-or_same (length ks) steps (steps-low ks steps complete)) p.each);
    }

-- the candidate is passed over
pub passed-next : (problem : List (List Constraint)) (log : List Lemma) (ks chosen : List ℕ) (k v : ℕ) (steps : List (ℕ × ℕ × Refutation)) (d : Refutation)
    → ArePassedOver problem log (ks ++ k ∷ []) steps
    → walk problem ks ≡ Some chosen
    → member (waiting problem chosen) k ≡ Some v
    → IsDenial problem log (is_among (chosen ++ v ∷ [])) d
    → is_in d.lits (negative v) ≡ true
    → ArePassedOver problem log (ks ++ (k + 1) ∷ []) (steps ++ (length ks, k, d) ∷ [])
passed-next problem log ks chosen k v steps d p w m i n =
    let low = low-or_last ks k steps (steps-low (ks ++ k ∷ []) steps p.complete) in
    let s : ℕ × ℕ × Refutation = (length ks, k, d) in
    record {
      complete = map-snoc (λ (s : ℕ × ℕ × Refutation). (s.0, s.1)) steps s ∙ (ap (λ ps. ps ++ (length ks, k) ∷ []) p.complete ∙ sym (pairs-more ks k));
      each = all-push (IsPassedOver problem log (ks ++ (k + 1) ∷ [])) steps s
          (steps-move problem log ks (k ∷ []) ((k + 1) ∷ []) steps low p.each)
          (record {
            chosen = chosen;
            candidate = v;
            walked = ap (walk problem) (take-append_seam ks ((k + 1) ∷ [])) ∙ w;
            offered = m;
            denial = i;
            named = n;
          });
    }

-- what is known of the last step, and of those before it
pub record LastStep (problem : List (List Constraint)) (log : List Lemma) (ks chosen : List ℕ) (k : ℕ) (steps : List (ℕ × ℕ × Refutation)) (s : ℕ × ℕ × Refutation) : Type 0 where
  pub before : ArePassedOver problem log (ks ++ k ∷ []) steps
  pub candidate : ℕ
  pub offered : member (waiting problem chosen) k ≡ Some candidate
  pub denial : IsDenial problem log (is_among (chosen ++ candidate ∷ [])) s.2
  pub named : is_in s.2.lits (negative candidate) ≡ true

pub passed-last : (problem : List (List Constraint)) (log : List Lemma) (ks chosen : List ℕ) (k : ℕ) (steps : List (ℕ × ℕ × Refutation)) (s : ℕ × ℕ × Refutation)
    → walk problem ks ≡ Some chosen
    → ArePassedOver problem log (ks ++ (k + 1) ∷ []) (steps ++ s ∷ [])
    → LastStep problem log ks chosen k steps s
passed-last problem log ks chosen k steps s w p =
    let f : ℕ × ℕ × Refutation → ℕ × ℕ = λ s. (s.0, s.1) in
    let parts = snoc-same (map f steps) (pairs_from 0 (ks ++ k ∷ [])) (s.0, s.1) (length ks, k) (sym (map-snoc f steps s) ∙ (p.complete ∙ pairs-more ks k)) in
    let choice : s.0 ≡ length ks = ap (λ (q : ℕ × ℕ). q.0) parts.1 in
    let number : s.1 ≡ k = ap (λ (q : ℕ × ℕ). q.1) parts.1 in
    let low = low-or_last ks k steps (steps-low (ks ++ k ∷ []) steps parts.0) in
    let (each, last) = all-pop (IsPassedOver problem log (ks ++ (k + 1) ∷ [])) steps s p.each in
    let walked : walk problem ks ≡ Some last.chosen = ap (walk problem) (sym (ap (λ i. take i (ks ++ (k + 1) ∷ [])) choice ∙ take-append_seam ks ((k + 1) ∷ []))) ∙ last.walked in
    let same : last.chosen ≡ chosen = (let e : Some last.chosen ≡ Some chosen = sym walked ∙ w in cc) in
    let P : List ℕ → Type 0 = λ vs. IsDenial problem log (is_among (vs ++ last.candidate ∷ [])) s.2 in
    record {
      before = record { complete = parts.0; each = steps-move problem log ks ((k + 1) ∷ []) (k ∷ []) steps low each };
      candidate = last.candidate;
      offered = ap (λ vs. member (waiting problem vs) k) (sym same) ∙ (ap (λ i. member (waiting problem last.chosen) i) (sym number) ∙ last.offered);
      denial = subst P same last.denial;
      named = last.named;
    }

-- where a candidate was passed over, there is a step
pub passed-some : (problem : List (List Constraint)) (log : List Lemma) (ks : List ℕ) (k : ℕ) → ArePassedOver problem log (ks ++ (k + 1) ∷ []) [] → ⊥
passed-some problem log ks k p =
    let e : [] ≡ pairs_from 0 (ks ++ k ∷ []) ++ (length ks, k) ∷ [] = p.complete ∙ pairs-more ks k in
    let n = ap length e in
    let m = length-append (pairs_from 0 (ks ++ k ∷ [])) ((length ks, k) ∷ []) in
    omega (arith, n, m)

-- a lemma more changes nothing of this
steps-grow : (problem : List (List Constraint)) (log : List Lemma) (lemma : Lemma) (ks : List ℕ) (steps : List (ℕ × ℕ × Refutation)) → AllByRecursion (IsPassedOver problem log ks) steps → AllByRecursion (IsPassedOver problem (log ++ lemma ∷ []) ks) steps
steps-grow problem log lemma ks [] a = tt
steps-grow problem log lemma ks (s ∷ steps) a = (
  record {
    chosen = a.0.chosen;
    candidate = a.0.candidate;
    walked = a.0.walked;
    offered = a.0.offered;
    named = a.0.named;
    denial = denial-grows problem log lemma (is_among (a.0.chosen ++ a.0.candidate ∷ [])) s.2 a.0.denial;
  },
  steps-grow problem log lemma ks steps a.1,
)

pub passed-grows : (problem : List (List Constraint)) (log : List Lemma) (lemma : Lemma) (ks : List ℕ) (steps : List (ℕ × ℕ × Refutation)) → ArePassedOver problem log ks steps → ArePassedOver problem (log ++ lemma ∷ []) ks steps
passed-grows problem log lemma ks steps p = record { complete = p.complete; each = steps-grow problem log lemma ks steps p.each }

-- the steps are those of a certificate
last-first : (vs : List ℕ) (m v : ℕ) → is_among (vs ++ m ∷ []) v ≡ true → is_among (m ∷ vs) v ≡ true
last-first vs m v e =
    elim (among-pushed vs m v e) [
      | inl inside ↦ or_right (eqb m v) (is_among vs v) inside
      | inr last ↦ or_left (eqb m v) (is_among vs v) (eq-eqb m v last)
    ]

pub steps-shown : (problem : List (List Constraint)) (log : List Lemma) (ks : List ℕ) (steps : List (ℕ × ℕ × Refutation)) → AllByRecursion (IsPassedOver problem log ks) steps → AllByRecursion (IsStep problem log ks) steps
steps-shown problem log ks [] a = tt
steps-shown problem log ks (s ∷ steps) a = (
  record {
    chosen = a.0.chosen;
    candidate = a.0.candidate;
    walked = a.0.walked;
    offered = a.0.offered;
    refutes = denial-refutes problem log (a.0.candidate ∷ a.0.chosen) s.2
        (denial-more problem log (is_among (a.0.chosen ++ a.0.candidate ∷ [])) (is_among (a.0.candidate ∷ a.0.chosen)) s.2 (last-first a.0.chosen a.0.candidate) a.0.denial);
  },
  steps-shown problem log ks steps a.1,
)

-- Back by a whole choice

take-map : {A B : Type 0} (f : A → B) (n : ℕ) (xs : List A) → map f (take n xs) ≡ take n (map f xs)
take-map f zero xs = refl
take-map f (suc n) [] = refl
take-map f (suc n) (x ∷ xs) = ap (λ ys. f x ∷ ys) (take-map f n xs)

length-mapped : {A B : Type 0} (f : A → B) (xs : List A) → length (map f xs) ≡ length xs
length-mapped f [] = refl
length-mapped f (x ∷ xs) = ap suc (length-mapped f xs)

all-taken : {A : Type 0} (P : A → Type 0) (n : ℕ) (xs : List A) → AllByRecursion P xs → AllByRecursion P (take n xs)
all-taken P zero xs a = tt
all-taken P (suc n) [] a = tt
all-taken P (suc n) (x ∷ xs) a = (a.0, all-taken P n xs a.1)

length-range : (a n : ℕ) → length (range_with_len a n) ≡ n
length-range a zero = refl
length-range a (suc n) = ap suc (length-range (a + 1) n)

-- how many steps a choice has
steps-length : (problem : List (List Constraint)) (log : List Lemma) (ks : List ℕ) (k : ℕ) (steps : List (ℕ × ℕ × Refutation)) → ArePassedOver problem log (ks ++ k ∷ []) steps → length steps ≡ length (pairs_from 0 ks) + k
steps-length problem log ks k steps p =
    let f : ℕ × ℕ × Refutation → ℕ × ℕ = λ s. (s.0, s.1) in
    let g : ℕ → ℕ × ℕ = λ j. (0 + length ks, j) in
    let a = length-mapped f steps in
    let b = ap length (p.complete ∙ pairs-push 0 ks k) in
    let c = length-append (pairs_from 0 ks) (at_choice (0 + length ks) k) in
    let d = length-mapped g (range_with_len 0 k) in
    let e = length-range 0 k in
    omega (arith, a, b, c, d, e)

pub steps-enough : (problem : List (List Constraint)) (log : List Lemma) (ks : List ℕ) (k : ℕ) (steps : List (ℕ × ℕ × Refutation)) → ArePassedOver problem log (ks ++ k ∷ []) steps → k ≤ length steps
steps-enough problem log ks k steps p = let n = steps-length problem log ks k steps p in omega (arith, n)

-- without the steps of the last choice
pub passed-cut : (problem : List (List Constraint)) (log : List Lemma) (ks : List ℕ) (k n : ℕ) (steps : List (ℕ × ℕ × Refutation)) → ArePassedOver problem log (ks ++ k ∷ []) steps → n + k ≡ length steps → ArePassedOver problem log ks (take n steps)
passed-cut problem log ks k n steps p e =
    let f : ℕ × ℕ × Refutation → ℕ × ℕ = λ s. (s.0, s.1) in
    let P : List ℕ → Type 0 = λ ns. AllByRecursion (IsPassedOver problem log ns) (take n steps) in
    let size = steps-length problem log ks k steps p in
    let same : n ≡ length (pairs_from 0 ks) = omega (arith, size, e) in
    let complete : map f (take n steps) ≡ pairs_from 0 ks =
    take-map f n steps ∙ (ap (take n) (p.complete ∙ pairs-push 0 ks k)
    ∙ (ap (λ i. take i (pairs_from 0 ks ++ at_choice (0 + length ks) k)) same ∙ take-append_seam (pairs_from 0 ks) (at_choice (0 + length ks) k))) in
    record {
      complete = complete;
      each = subst P (append-nil ks) (steps-move problem log ks (k ∷ []) [] (take n steps)
          (less-or_same (length ks) (take n steps) (steps-low ks (take n steps) complete))
          (all-taken (IsPassedOver problem log (ks ++ k ∷ [])) n steps p.each));
    }
