-- What a full walk chose meets the problem, where it chose within a set that meets it.
use Rattle.std.proofs.Common.{◌≡◌, ℕ, zero, suc, ◌+◌, ◌≤◌, Bool, true, false, not, cond, ◌⊎◌, List, [], ◌∷◌, ◌++◌, refl, sym, ap, ◌∙◌, subst, arith, inl, inr, Some, None, slice_get, eqb}
use Rattle.std.specs.List.{list_any, count_by}
use Rattle.std.proofs.lemmas.Bool.{cases_Bool, or_cases, or_left, or_right, eqb-true, eq-eqb, both_ways, not-true, not_from_false, false_from_ne_true, leb-true, le-leb, cond-false}
use Rattle.std.proofs.lemmas.List.Sums.{sum_by-cons}
use Rattle.op_constraints.specs.declared.Constraint.{Constraint}
use Rattle.op_constraints.specs.declared.Constraint.TheVariants.{Mandatory, Prohibited, Dependency, Conflict, AtMost}
use Rattle.op_constraints.specs.Meets.{constraints_of, constraint_at, is_true_of, Meets}
use Rattle.op_constraints.specs.Walks.{is_among, is_mandatory, mandatory_from, mandatory, dependencies, agenda, passed, waiting}

-- The lists of the agenda
abbrev pub HasList : List ℕ → List (List ℕ) → Type 0
HasList ms [] = ⊥
HasList ms (ns ∷ lists) = (ns ≡ ms) ⊎ HasList ms lists

has_left : (ms : List ℕ) (xs ys : List (List ℕ)) → HasList ms xs → HasList ms (xs ++ ys)
has_left ms [] ys h = absurd h
has_left ms (x ∷ xs) ys (inl e) = inl e
has_left ms (x ∷ xs) ys (inr h) = inr (has_left ms xs ys h)

has_right : (ms : List ℕ) (xs ys : List (List ℕ)) → HasList ms ys → HasList ms (xs ++ ys)
has_right ms [] ys h = h
has_right ms (x ∷ xs) ys h = inr (has_right ms xs ys h)

has_dependency : (cs : List Constraint) (k : ℕ) (ms : List ℕ) → slice_get cs k ≡ Some (Dependency ms) → HasList ms (dependencies cs)
has_dependency [] k ms e = absurd (let bad : None ≡ Some (Dependency ms) = e in cc)
has_dependency (Mandatory ∷ cs) zero ms e = absurd (let bad : Some Mandatory ≡ Some (Dependency ms) = e in cc)
has_dependency (Prohibited ∷ cs) zero ms e = absurd (let bad : Some Prohibited ≡ Some (Dependency ms) = e in cc)
has_dependency (Dependency ns ∷ cs) zero ms e = inl cc
has_dependency (Conflict o ∷ cs) zero ms e = absurd (let bad : Some (Conflict o) ≡ Some (Dependency ms) = e in cc)
has_dependency (AtMost n ns ∷ cs) zero ms e = absurd (let bad : Some (AtMost n ns) ≡ Some (Dependency ms) = e in cc)
has_dependency (Mandatory ∷ cs) (suc k) ms e = has_dependency cs k ms e
has_dependency (Prohibited ∷ cs) (suc k) ms e = has_dependency cs k ms e
has_dependency (Dependency ns ∷ cs) (suc k) ms e = inr (has_dependency cs k ms e)
has_dependency (Conflict o ∷ cs) (suc k) ms e = has_dependency cs k ms e
has_dependency (AtMost n ns ∷ cs) (suc k) ms e = has_dependency cs k ms e

pub has_agenda : (problem : List (List Constraint)) (chosen : List ℕ) (v k : ℕ) (ms : List ℕ) → is_among chosen v ≡ true → constraint_at problem v k ≡ Some (Dependency ms) → HasList ms (agenda problem chosen)
has_agenda problem [] v k ms e at = absurd (let bad : false ≡ true = e in cc)
has_agenda problem (w ∷ ws) v k ms e at =
    elim (or_cases (eqb w v) (is_among ws v) e) [
      | inl same ↦ has_left ms (dependencies (constraints_of problem w)) (agenda problem ws)
          (has_dependency (constraints_of problem w) k ms (ap (λ u. constraint_at problem u k) (eqb-true w v same) ∙ at))
      | inr rest ↦ has_right ms (dependencies (constraints_of problem w)) (agenda problem ws) (has_agenda problem ws v k ms rest at)
    ]

pub all_passed : (set : ℕ → Bool) (lists : List (List ℕ)) (ms : List ℕ) → passed set lists ≡ [] → HasList ms lists → list_any set ms ≡ true
all_passed set [] ms e h = absurd h
all_passed set (ns ∷ lists) ms e h =
    elim (cases_Bool (list_any set ns)) [
      | inl here ↦
          (let e' = rw here at e in
          elim h [
            | inl same ↦ subst (λ (xs : List ℕ). list_any set xs ≡ true) same here
            | inr rest ↦ all_passed set lists ms e' rest
          ])
      | inr other ↦ absurd (let bad : (ns ∷ lists) ≡ [] = sym (cond-false (list_any set ns) (passed set lists) (ns ∷ lists) other) ∙ e in cc)
    ]

-- std's count_by adds from the left, so it doesn't compute at a first element
pub count_by-cons : (set : ℕ → Bool) (m : ℕ) (ms : List ℕ) (b : Bool) → set m ≡ b → count_by set (m ∷ ms) ≡ cond b 1 0 + count_by set ms
count_by-cons set m ms b e = sum_by-cons (λ v. cond (set v) 1 0) m ms ∙ ap (λ c. cond c 1 0 + count_by set ms) e

-- Counts within a set
count_within : (f g : ℕ → Bool) (ms : List ℕ) → ((v : ℕ) → f v ≡ true → g v ≡ true) → count_by f ms ≤ count_by g ms
count_within f g [] h = omega arith
count_within f g (m ∷ ms) h =
    let rest = count_within f g ms h in
    elim (cases_Bool (f m)) [
      | inl inside ↦
          (let a = count_by-cons f m ms true inside in let b = count_by-cons g m ms true (h m inside) in omega (arith, rest, a, b))
      | inr outside ↦
          (let a = count_by-cons f m ms false outside in let b = count_by-cons g m ms (g m) refl in omega (arith, rest, a, b))
    ]

out_too : (f g : ℕ → Bool) (v : ℕ) → ((v : ℕ) → f v ≡ true → g v ≡ true) → not (g v) ≡ true → not (f v) ≡ true
out_too f g v h e = not_from_false (f v) (false_from_ne_true (f v) (λ i. both_ways (g v) (not-true (g v) e) (h v i)))

pub any_mandatory : (cs : List Constraint) (k : ℕ) → slice_get cs k ≡ Some Mandatory → list_any is_mandatory cs ≡ true
any_mandatory [] k e = absurd (let bad : None ≡ Some Mandatory = e in cc)
any_mandatory (c ∷ cs) zero e = or_left (is_mandatory c) (list_any is_mandatory cs) (let same : c ≡ Mandatory = cc in ap is_mandatory same)
any_mandatory (c ∷ cs) (suc k) e = or_right (is_mandatory c) (list_any is_mandatory cs) (any_mandatory cs k e)

pub among_mandatory : (n : ℕ) (problem : List (List Constraint)) (i v : ℕ) → v ≡ n + i → list_any is_mandatory (constraints_of problem i) ≡ true → is_among (mandatory_from n problem) v ≡ true
among_mandatory n [] i v e m = absurd (let bad : false ≡ true = m in cc)
among_mandatory n (cs ∷ css) zero v e m =
    rw m (or_left (eqb n v) (is_among (mandatory_from (n + 1) css) v) (eq-eqb n v (omega arith)))
among_mandatory n (cs ∷ css) (suc i) v e m =
    let rest = among_mandatory (n + 1) css i v (omega arith) m in
    elim (cases_Bool (list_any is_mandatory cs)) [
      | inl here ↦ rw here (or_right (eqb n v) (is_among (mandatory_from (n + 1) css) v) rest)
      | inr other ↦ rw other rest
    ]

met : (problem : List (List Constraint)) (chosen : List ℕ) (set : ℕ → Bool) → ((v : ℕ) → is_among (mandatory problem) v ≡ true → is_among chosen v ≡ true) → ((v : ℕ) → is_among chosen v ≡ true → set v ≡ true) → waiting problem chosen ≡ [] → (v place : ℕ) (c : Constraint) → constraint_at problem v place ≡ Some c → is_true_of set v c ≡ true → is_true_of (is_among chosen) v c ≡ true
met problem chosen set m inside full v place Mandatory at h = m v (among_mandatory 0 problem v v (omega arith) (any_mandatory (constraints_of problem v) place at))
met problem chosen set m inside full v place Prohibited at h = out_too (is_among chosen) set v inside h
met problem chosen set m inside full v place (Conflict o) at h =
    elim (or_cases (not (set v)) (not (set o)) h) [
      | inl one ↦ or_left (not (is_among chosen v)) (not (is_among chosen o)) (out_too (is_among chosen) set v inside one)
      | inr two ↦ or_right (not (is_among chosen v)) (not (is_among chosen o)) (out_too (is_among chosen) set o inside two)
    ]
met problem chosen set m inside full v place (AtMost most ms) at h =
    le-leb (count_by (is_among chosen) ms) most (let a = count_within (is_among chosen) set ms inside in let b : count_by set ms ≤ most = leb-true (count_by set ms) most h in omega (arith, a, b))
met problem chosen set m inside full v place (Dependency ms) at h =
    elim (cases_Bool (is_among chosen v)) [
      | inl here ↦ or_right (not (is_among chosen v)) (list_any (is_among chosen) ms) (all_passed (is_among chosen) (agenda problem chosen) ms full (has_agenda problem chosen v place ms here at))
      | inr out ↦ or_left (not (is_among chosen v)) (list_any (is_among chosen) ms) (not_from_false (is_among chosen v) out)
    ]

pub full_meets : (problem : List (List Constraint)) (chosen : List ℕ) (set : ℕ → Bool) → Meets problem set → ((v : ℕ) → is_among (mandatory problem) v ≡ true → is_among chosen v ≡ true) → ((v : ℕ) → is_among chosen v ≡ true → set v ≡ true) → waiting problem chosen ≡ [] → Meets problem (is_among chosen)
full_meets problem chosen set all m inside full v place c at = met problem chosen set m inside full v place c at (all v place c at)

-- A list that waits has a member in each set that meets the problem and has all that is chosen

first_list : (n m : List ℕ) (ns ms : List (List ℕ)) → (n ∷ ns) ≡ (m ∷ ms) → n ≡ m
first_list n m ns ms e = cc

pub list_passed : (set : ℕ → Bool) (lists : List (List ℕ)) (m : List ℕ) (ms : List (List ℕ)) → passed set lists ≡ m ∷ ms → HasList m lists
list_passed set [] m ms e = absurd (let bad : [] ≡ m ∷ ms = e in cc)
list_passed set (n ∷ lists) m ms e =
    elim (cases_Bool (list_any set n)) [
      | inl here ↦ (let e' = rw here at e in inr (list_passed set lists m ms e'))
      | inr other ↦ (let e' = rw other at e in inl (first_list n m lists ms e'))
    ]

dependency_place : (cs : List Constraint) (m : List ℕ) → HasList m (dependencies cs) → (k : ℕ) × (slice_get cs k ≡ Some (Dependency m))
dependency_place [] m h = absurd h
dependency_place (Mandatory ∷ cs) m h = let (k, is) = dependency_place cs m h in (suc k, is)
dependency_place (Prohibited ∷ cs) m h = let (k, is) = dependency_place cs m h in (suc k, is)
dependency_place (Dependency n ∷ cs) m (inl e) = (zero, ap (λ ns. Some (Dependency ns)) e)
dependency_place (Dependency n ∷ cs) m (inr h) = let (k, is) = dependency_place cs m h in (suc k, is)
dependency_place (Conflict o ∷ cs) m h = let (k, is) = dependency_place cs m h in (suc k, is)
dependency_place (AtMost n ns ∷ cs) m h = let (k, is) = dependency_place cs m h in (suc k, is)

list_in : (m : List ℕ) (xs ys : List (List ℕ)) → HasList m (xs ++ ys) → HasList m xs ⊎ HasList m ys
list_in m [] ys h = inr h
list_in m (x ∷ xs) ys (inl e) = inl (inl e)
list_in m (x ∷ xs) ys (inr h) = elim (list_in m xs ys h) [ inl a ↦ inl (inr a) | inr b ↦ inr b ]

pub agenda_place : (problem : List (List Constraint)) (chosen : List ℕ) (m : List ℕ) → HasList m (agenda problem chosen) → (v : ℕ) × (k : ℕ) × (is_among chosen v ≡ true) × (constraint_at problem v k ≡ Some (Dependency m))
agenda_place problem [] m h = absurd h
agenda_place problem (w ∷ ws) m h =
    elim (list_in m (dependencies (constraints_of problem w)) (agenda problem ws) h) [
      | inl here ↦ (let (k, is) = dependency_place (constraints_of problem w) m here in (w, k, or_left (eqb w w) (is_among ws w) (eq-eqb w w refl), is))
      | inr rest ↦ (let (v, k, is, at) = agenda_place problem ws m rest in (v, k, or_right (eqb w v) (is_among ws v) is, at))
    ]

pub waiting_member : (problem : List (List Constraint)) (chosen : List ℕ) (set : ℕ → Bool) (m : List ℕ) (ms : List (List ℕ)) → Meets problem set → ((v : ℕ) → is_among chosen v ≡ true → set v ≡ true) → waiting problem chosen ≡ m ∷ ms → list_any set m ≡ true
waiting_member problem chosen set m ms meets inside w =
    let (v, k, is, at) = agenda_place problem chosen m (list_passed (is_among chosen) (agenda problem chosen) m ms w) in
    elim (or_cases (not (set v)) (list_any set m) (meets v k (Dependency m) at)) [
      | inl out ↦ absurd (both_ways (set v) (not-true (set v) out) (inside v is))
      | inr some ↦ some
    ]

-- A mandatory variable with an empty list is met by no set
pub none_meets : (problem : List (List Constraint)) (v i j : ℕ) → constraint_at problem v i ≡ Some Mandatory → constraint_at problem v j ≡ Some (Dependency []) → (set : ℕ → Bool) → Meets problem set → ⊥
none_meets problem v i j m d set meets =
    elim (or_cases (not (set v)) false (meets v j (Dependency []) d)) [
      | inl out ↦ both_ways (set v) (not-true (set v) out) (meets v i Mandatory m)
      | inr bad ↦ both_ways false refl bad
    ]
