-- An accepted certificate is right.
use Rattle.std.proofs.Common.{◌≡◌, ℕ, zero, suc, ◌+◌, ◌≤◌, ◌<◌, Bool, true, false, not, cond, eqb, List, [], ◌∷◌, ◌++◌, map, take, refl, sym, ap, ◌∙◌, subst, arith, inl, inr, ◌⊎◌, Some, None, slice_get}
use Rattle.std.specs.Option.{option_and_then}
use Rattle.std.specs.List.{list_any, list_all, AllByRecursion, range_with_len}
use Rattle.std.proofs.lemmas.Bool.{or_cases, or_from, and_parts, eqb-true, both_ways, not_from_true, not-true, cases_Bool, cases_eq}
use Rattle.op_constraints.specs.declared.Lit.{Lit}
use Rattle.op_constraints.specs.declared.Constraint.{Constraint}
use Rattle.op_constraints.specs.declared.Constraint.TheVariants.{Mandatory, Prohibited, Dependency, Conflict, AtMost}
use Rattle.op_constraints.specs.Meets.{constraints_of, Meets}
use Rattle.op_constraints.specs.Walks.{is_among, is_mandatory, mandatory_from, mandatory, waiting, member, walk_from, IsBefore, IsBest}
use Rattle.op_constraints.proofs.WalkLaws.{under, chosen_stays, among_append_left, among_push}
use Rattle.derivations.specs.declared.Lemma.{Lemma}
use Rattle.derivations.specs.declared.Refutation.{Refutation}
use Rattle.derivations.specs.declared.Certificate.{Certificate}
use Rattle.derivations.specs.declared.Finding.{Finding}
use Rattle.derivations.specs.declared.Finding.TheVariants.{Chosen, Refused, Undecided}
use Rattle.derivations.specs.Clauses.{lit_holds, clause_holds}
use Rattle.derivations.specs.Follows.{clauses, LogFollows}
use Rattle.derivations.specs.Accepted.{denies, Refutes, pairs_from, IsStep, IsShownBest, IsShown, IsAccepted}
use Rattle.derivations.specs.Laws.{IsRight}
use Rattle.derivations.proofs.Sound.{fault_of-holds, log_fault-hold}

-- Membership by recursion
abbrev pub IsIn : {A : Type 0} → A → List A → Type 0
IsIn x [] = ⊥
IsIn x (y ∷ ys) = (y ≡ x) ⊎ IsIn x ys

in_left : {A : Type 0} (x : A) (xs ys : List A) → IsIn x xs → IsIn x (xs ++ ys)
in_left x [] ys h = absurd h
in_left x (y ∷ xs) ys (inl e) = inl e
in_left x (y ∷ xs) ys (inr h) = inr (in_left x xs ys h)

in_right : {A : Type 0} (x : A) (xs ys : List A) → IsIn x ys → IsIn x (xs ++ ys)
in_right x [] ys h = h
in_right x (y ∷ xs) ys h = inr (in_right x xs ys h)

in_range : (choice a n j : ℕ) → a ≤ j → j < a + n → IsIn {A = ℕ × ℕ} (choice, j) (map (λ j. (choice, j)) (range_with_len a n))
in_range choice a zero j low high = absurd (omega arith)
in_range choice a (suc n) j low high =
    elim (cases_eq a j) [
      | inl same ↦ inl (ap (λ k. (choice, k)) same)
      | inr other ↦ inr (in_range choice (a + 1) n j (omega arith) (omega arith))
    ]

-- the step for a pair that is among the steps' pairs
found : {R : Type 0} (P : ℕ × ℕ × R → Type 0) (steps : List (ℕ × ℕ × R)) (i j : ℕ) → AllByRecursion P steps → IsIn {A = ℕ × ℕ} (i, j) (map (λ s. (s.0, s.1)) steps) → (r : R) × P (i, j, r)
found P [] i j a h = absurd h
found P (s ∷ steps) i j a (inl e) =
    let first : s.0 ≡ i = ap (λ q. q.0) e in
    let second : s.1 ≡ j = ap (λ q. q.1) e in
    let whole : s ≡ (i, j, s.2) = ap (λ a. (a, s.1, s.2)) first ∙ ap (λ b. (i, b, s.2)) second in
    (s.2, subst P whole a.0)
found P (s ∷ steps) i j a (inr h) = found P steps i j a.1 h

-- Where an earlier full walk leaves the later one: the number that it takes there is below, and all that was chosen by then, with the candidate, is in its end
record Parting (problem : List (List Constraint)) (choice : ℕ) (chosen : List ℕ) (ks : List ℕ) (end : List ℕ) : Type 0 where
  step : ℕ
  number : ℕ
  mid : List ℕ
  candidate : ℕ
  is_in : IsIn {A = ℕ × ℕ} (choice + step, number) (pairs_from choice ks)
  stands : walk_from problem chosen (take step ks) ≡ Some mid
  offered : member (waiting problem mid) number ≡ Some candidate
  candidate_in : is_among end candidate ≡ true
  chosen_in : (v : ℕ) → is_among mid v ≡ true → is_among end v ≡ true

part : (problem : List (List Constraint)) (choice : ℕ) (chosen js ks end last : List ℕ) → IsBefore js ks → walk_from problem chosen js ≡ Some end → waiting problem end ≡ [] → walk_from problem chosen ks ≡ Some last → Parting problem choice chosen ks end
part problem choice chosen js [] end last b w full v = absurd b
part problem choice chosen [] (k ∷ ks) end last b w full v =
    let (c, is, rest) = under (λ c. walk_from problem (chosen ++ c ∷ []) ks) (member (waiting problem chosen) k) last v in
    let same : chosen ≡ end = cc in
    let none : member (waiting problem chosen) k ≡ None = ap (λ (vs : List ℕ). member (waiting problem vs) k) same ∙ ap (λ a. member a k) full in
    absurd (let bad : None ≡ Some c = sym none ∙ is in cc)
part problem choice chosen (j ∷ js) (k ∷ ks) end last (inl less) w full v =
    let (c, is, rest) = under (λ c. walk_from problem (chosen ++ c ∷ []) js) (member (waiting problem chosen) j) end w in
    let stays : (u : ℕ) → is_among (chosen ++ c ∷ []) u ≡ true → is_among end u ≡ true = λ u. chosen_stays problem (chosen ++ c ∷ []) js end u rest in
    record {
      step = 0;
      number = j;
      mid = chosen;
      candidate = c;
      is_in = in_left {A = ℕ × ℕ} (choice + 0, j) _ (pairs_from (choice + 1) ks) (let e : choice ≡ choice + 0 = omega arith in subst (λ n. IsIn {A = ℕ × ℕ} (n, j) (map (λ j. (choice, j)) (range_with_len 0 k))) e (in_range choice 0 k j (omega arith) (omega arith)));
      stands = refl;
      offered = is;
      candidate_in = stays c (among_push chosen c);
      chosen_in = λ u h. stays u (among_append_left chosen (c ∷ []) u h);
    }
part problem choice chosen (j ∷ js) (k ∷ ks) end last (inr (same, b)) w full v =
    let (c, is, rest) = under (λ c. walk_from problem (chosen ++ c ∷ []) js) (member (waiting problem chosen) j) end w in
    let (d, is', rest') = under (λ c. walk_from problem (chosen ++ c ∷ []) ks) (member (waiting problem chosen) k) last v in
    let both : c ≡ d = cc (sym is ∙ ap (λ n. member (waiting problem chosen) n) same ∙ is') in
    let onward : walk_from problem (chosen ++ c ∷ []) ks ≡ Some last = subst (λ u. walk_from problem (chosen ++ u ∷ []) ks ≡ Some last) (sym both) rest' in
    let p = part problem (choice + 1) (chosen ++ c ∷ []) js ks end last b rest full onward in
    record {
      step = suc p.step;
      number = p.number;
      mid = p.mid;
      candidate = p.candidate;
      is_in = in_right {A = ℕ × ℕ} (choice + suc p.step, p.number) _ (pairs_from (choice + 1) ks) (let e : choice + 1 + p.step ≡ choice + suc p.step = omega arith in subst (λ n. IsIn {A = ℕ × ℕ} (n, p.number) (pairs_from (choice + 1) ks)) e p.is_in);
      stands = ap (λ o. option_and_then (λ u. walk_from problem (chosen ++ u ∷ []) (take p.step ks)) o) (ap (λ n. member (waiting problem chosen) n) (sym same) ∙ is) ∙ p.stands;
      offered = p.offered;
      candidate_in = p.candidate_in;
      chosen_in = p.chosen_in;
    }

fails : (positive inside : Bool) → positive ≡ false → inside ≡ true → cond positive inside (not inside) ≡ false
fails true inside p i = absurd (let bad : true ≡ false = p in cc)
fails false inside p i = not_from_true inside i

-- where all of these are in, a clause of denials of them fails
denials_fail : (set : ℕ → Bool) (vs : List ℕ) (lits : List Lit) → list_all (λ l. denies vs l) lits ≡ true → ((v : ℕ) → is_among vs v ≡ true → set v ≡ true) → clause_holds set lits ≡ false
denials_fail set vs [] a inside = refl
denials_fail set vs (l ∷ ls) a inside =
    let parts = and_parts (denies vs l) (list_all (λ l. denies vs l) ls) a in
    let here = and_parts (not l.positive) (is_among vs l.var) parts.0 in
    or_from (lit_holds set l) (clause_holds set ls)
    (fails l.positive (set l.var) (not-true l.positive here.0) (inside l.var here.1))
    (denials_fail set vs ls parts.1 inside)

refuted : (problem : List (List Constraint)) (log : List Lemma) (vs : List ℕ) (refutation : Refutation) (set : ℕ → Bool) → LogFollows problem log → Refutes problem log vs refutation → Meets problem set → ((v : ℕ) → is_among vs v ≡ true → set v ≡ true) → ⊥
refuted problem log vs refutation set l r m inside =
    both_ways (clause_holds set refutation.lits)
    (denials_fail set vs refutation.lits r.0 inside)
    (fault_of-holds problem (clauses log) refutation.lits refutation.hints set r.1 m (log_fault-hold problem [] log set l m tt))

among_cons : (c : ℕ) (vs : List ℕ) (set : ℕ → Bool) → set c ≡ true → ((v : ℕ) → is_among vs v ≡ true → set v ≡ true) → (v : ℕ) → is_among (c ∷ vs) v ≡ true → set v ≡ true
among_cons c vs set here there v e =
    elim (or_cases (eqb c v) (is_among vs v) e) [
      | inl same ↦ subst (λ (u : ℕ). set u ≡ true) (eqb-true c v same) here
      | inr rest ↦ there v rest
    ]

pub chosen_best : (problem : List (List Constraint)) (log : List Lemma) (numbers : List ℕ) (steps : List (ℕ × ℕ × Refutation)) → LogFollows problem log → IsShownBest problem log numbers steps → IsBest problem numbers
chosen_best problem log numbers steps l s =
    record {
      succeeds = s.succeeds;
      first = λ js before other.
          let p = part problem 0 (mandatory problem) js numbers other.chosen s.succeeds.chosen before other.walked other.full s.succeeds.walked in
          let pair : IsIn {A = ℕ × ℕ} (p.step, p.number) (pairs_from 0 numbers) = (let e : 0 + p.step ≡ p.step = omega arith in subst (λ n. IsIn {A = ℕ × ℕ} (n, p.number) (pairs_from 0 numbers)) e p.is_in) in
          let (r, step) = found (IsStep problem log numbers) steps p.step p.number s.each (subst (λ (qs : List (ℕ × ℕ)). IsIn {A = ℕ × ℕ} (p.step, p.number) qs) (sym s.complete) pair) in
          let same : step.chosen ≡ p.mid = cc (sym step.walked ∙ p.stands) in
          let candidate : step.candidate ≡ p.candidate = cc (sym step.offered ∙ ap (λ vs. member (waiting problem vs) p.number) same ∙ p.offered) in
          let set : ℕ → Bool = is_among other.chosen in
          refuted problem log (step.candidate ∷ step.chosen) r set l step.refutes other.met
          (among_cons step.candidate step.chosen set
          (subst (λ (c : ℕ). set c ≡ true) (sym candidate) p.candidate_in)
          (λ v h. p.chosen_in v (subst (λ (vs : List ℕ). is_among vs v ≡ true) same h)));
    }

-- Mandatory variables

mandatory_place : (cs : List Constraint) → list_any is_mandatory cs ≡ true → (k : ℕ) × (slice_get cs k ≡ Some Mandatory)
mandatory_place [] e = absurd (let bad : false ≡ true = e in cc)
mandatory_place (Mandatory ∷ cs) e = (zero, refl)
mandatory_place (Prohibited ∷ cs) e = let (k, is) = mandatory_place cs e in (suc k, is)
mandatory_place (Dependency members ∷ cs) e = let (k, is) = mandatory_place cs e in (suc k, is)
mandatory_place (Conflict other ∷ cs) e = let (k, is) = mandatory_place cs e in (suc k, is)
mandatory_place (AtMost most members ∷ cs) e = let (k, is) = mandatory_place cs e in (suc k, is)

mandatory_at : (n : ℕ) (problem : List (List Constraint)) (v : ℕ) → is_among (mandatory_from n problem) v ≡ true → (i : ℕ) × (v ≡ n + i) × (list_any is_mandatory (constraints_of problem i) ≡ true)
mandatory_at n [] v e = absurd (let bad : false ≡ true = e in cc)
mandatory_at n (cs ∷ css) v e =
    elim (cases_Bool (list_any is_mandatory cs)) [
      | inl here ↦
          (let e' = rw here at e in
          elim (or_cases (eqb n v) (is_among (mandatory_from (n + 1) css) v) e') [
            | inl same ↦ (zero, (let s = eqb-true n v same in omega arith), here)
            | inr rest ↦ let (i, is, there) = mandatory_at (n + 1) css v rest in (suc i, omega arith, there)
          ])
      | inr other ↦
          let e' = rw other at e in let (i, is, there) = mandatory_at (n + 1) css v e' in (suc i, omega arith, there)
    ]

pub mandatory_in : (problem : List (List Constraint)) (set : ℕ → Bool) → Meets problem set → (v : ℕ) → is_among (mandatory problem) v ≡ true → set v ≡ true
mandatory_in problem set m v e =
    let (i, is, there) = mandatory_at 0 problem v e in
    let (k, at) = mandatory_place (constraints_of problem i) there in
    let same : i ≡ v = omega arith in
    subst (λ (u : ℕ). set u ≡ true) same (m i k Mandatory at)

right : (problem : List (List Constraint)) (log : List Lemma) (finding : Finding) → LogFollows problem log → IsShown problem log finding → IsRight problem finding
right problem log (Chosen numbers steps) l s = chosen_best problem log numbers steps l s
right problem log (Refused refutation) l s = λ set m. refuted problem log (mandatory problem) refutation set l s m (mandatory_in problem set m)
right problem log Undecided l s = tt

pub accepted_right : (problem : List (List Constraint)) (certificate : Certificate) → IsAccepted problem certificate → IsRight problem certificate.finding
accepted_right problem certificate a = right problem certificate.log.lemmas certificate.finding a.log a.finding
