-- What is marked when a clause is denied, and that each clause that a hint names is of marked variables.
use Rattle.std.proofs.Common.{◌≡◌, ℕ, zero, suc, ◌+◌, ◌<◌, ◌==◌, Bool, true, false, not, cond, ◌&&◌, ◌||◌, List, [], ◌∷◌, length, map, take, refl, sym, ap, ◌∙◌, subst, arith, inl, inr, Option, Some, None, Ok, IsTrue, set, get_or, get_or-set_other, get_or-set_same, length-set, nat_lt, eq-eqb, ne_eqb, is_none, replicate, slice_get}
use Rattle.std.proofs.Math.Bool.{and-false, or-false}
use Rattle.std.specs.Option.{option_and_then}
use Rattle.std.specs.List.{list_all, AllByRecursion}
use Rattle.std.proofs.lemmas.Bool.{cases_Bool, cases_eq, and_parts, ltb-true, eqb-true, or_cases, cond-true, cond-false}
use Rattle.std.proofs.lemmas.List.{length-replicate}
use Rattle.op_constraints.proofs.Taking.{within-place}
use Rattle.op_constraints.proofs.WalkLaws.{under}
use Rattle.op_constraints.specs.declared.Lit.{Lit}
use Rattle.op_constraints.specs.declared.Constraint.{Constraint}
use Rattle.op_constraints.specs.declared.Constraint.TheVariants.{Mandatory, Prohibited, Dependency, Conflict, AtMost}
use Rattle.op_constraints.specs.Meets.{constraint_at, IsWithin, IsClosed}
use Rattle.op_constraints.specs.Walks.{is_among}
use Rattle.derivations.specs.declared.Hint.{Hint}
use Rattle.derivations.specs.declared.Lemma.{Lemma}
use Rattle.derivations.specs.declared.Hint.TheVariants.{Lemma as LemmaHint, Given}
use Rattle.derivations.specs.declared.LogCause.TheVariants.{NoSuchHint, BadGiven, BadClause}
use Rattle.derivations.specs.Clauses.{positive, negative, denial, is_same, is_in, is_too_many, given_clause}
use Rattle.op_constraints.specs.Kept.{is_distinct}
use Rattle.derivations.specs.Follows.{clause_of, is_clause, all_hints_fault, fault_of, clauses}
use Rattle.derivations.proofs.Grows.{ok_some}
use Rattle.derivation_check.specs.Scan.{says, is_said, denied_in, are_new, answer}
use Rattle.derivation_check.proofs.ScanLemmas.{Agrees, Agrees-set, IsBelow, answer_same}

-- Nothing is known at first

abbrev nothing : Option Bool
nothing = None

pub none_known : (n v : ℕ) → get_or (replicate n nothing) v nothing ≡ nothing
none_known zero v = refl
none_known (suc n) zero = refl
none_known (suc n) (suc v) = none_known n v

Agrees-fresh : (n : ℕ) → Agrees (replicate n None) []
Agrees-fresh n l = ap (λ o. says o l.positive) (sym (none_known n l.var))

none_is : (o : Option Bool) → is_none o ≡ true → o ≡ None
none_is None e = refl
none_is (Some b) e = absurd (let bad : false ≡ true = e in cc)

-- The denials

regroup : (a b c : Bool) → ((a || b) || c) ≡ (b || (a || c))
regroup true true c = refl
regroup true false c = refl
regroup false true c = refl
regroup false false c = refl

denied_says : (known : List (Option Bool)) (trail lits : List Lit) → Agrees known trail → are_new known lits ≡ true → (m : Lit) → (is_in (map denial lits) m || is_in trail m) ≡ is_said (denied_in known lits) m
denied_says known trail [] a e m = a m
denied_says known trail (l ∷ ls) a e m =
    let parts = and_parts (nat_lt l.var (length known) && is_none (get_or known l.var None)) (are_new (set known l.var (Some (not l.positive))) ls) e in
    let here = and_parts (nat_lt l.var (length known)) (is_none (get_or known l.var None)) parts.0 in
    regroup (is_same (denial l) m) (is_in (map denial ls) m) (is_in trail m)
    ∙ denied_says (set known l.var (Some (not l.positive))) (denial l ∷ trail) ls (Agrees-set known trail (denial l) a (ltb-true l.var (length known) here.0) (none_is (get_or known l.var None) here.1)) parts.1 m

pub Agrees-denied : (n : ℕ) (lits : List Lit) → are_new (replicate n None) lits ≡ true → Agrees (denied_in (replicate n None) lits) (map denial lits)
Agrees-denied n lits e m = sym (or-false (is_in (map denial lits) m)) ∙ denied_says (replicate n None) [] lits (Agrees-fresh n) e m

pub length-denied_in : (known : List (Option Bool)) (lits : List Lit) → length (denied_in known lits) ≡ length known
length-denied_in known [] = refl
length-denied_in known (l ∷ ls) = length-denied_in (set known l.var (Some (not l.positive))) ls ∙ length-set known l.var (Some (not l.positive))

-- Whether the literals are a clause

abbrev unknown : List (Option Bool) → ℕ → Bool
unknown known v = is_none (get_or known v None)

unknown_set : (known : List (Option Bool)) (v : ℕ) (b : Bool) (w : ℕ) → v < length known → unknown (set known v (Some b)) w ≡ (not (v == w) && unknown known w)
unknown_set known v b w h =
    elim (cases_eq v w) [
      | inl same ↦ rw (eq-eqb v w same) (ap is_none (ap (λ k. get_or (set known v (Some b)) k None) (sym same) ∙ get_or-set_same known v (Some b) None h))
      | inr other ↦ rw (ne_eqb v w other) (ap is_none (get_or-set_other known v w (Some b) None (λ s. other (sym s))))
    ]

pub swap_tests : (e u m a : Bool) → ((not e && u) && (not m && a)) ≡ (not (e || m) && (u && a))
swap_tests true u m a = refl
swap_tests false true true a = refl
swap_tests false true false a = refl
swap_tests false false true a = refl
swap_tests false false false a = refl

pub eqb_sym : (v w : ℕ) → (v == w) ≡ (w == v)
eqb_sym v w =
    elim (cases_eq v w) [
      | inl same ↦ rw (eq-eqb v w same) (sym (eq-eqb w v (sym same)))
      | inr other ↦ rw (ne_eqb v w other) (sym (ne_eqb w v (λ s. other (sym s))))
    ]

unknown_all : (known : List (Option Bool)) (v : ℕ) (b : Bool) (ws : List ℕ) → v < length known → list_all (unknown (set known v (Some b))) ws ≡ (not (is_among ws v) && list_all (unknown known) ws)
unknown_all known v b [] h = refl
unknown_all known v b (w ∷ ws) h =
    ap (λ x. x && list_all (unknown (set known v (Some b))) ws) (unknown_set known v b w h)
    ∙ (ap (λ x. (not (v == w) && unknown known w) && x) (unknown_all known v b ws h)
    ∙ (swap_tests (v == w) (unknown known w) (is_among ws v) (list_all (unknown known) ws)
    ∙ ap (λ x. not (x || is_among ws v) && (unknown known w && list_all (unknown known) ws)) (eqb_sym v w)))

sort_tests : (a u A m U d : Bool) → ((a && u) && (A && ((m && U) && d))) ≡ ((a && A) && ((u && U) && (m && d)))
sort_tests false u A m U d = refl
sort_tests true u false m U d = and-false u
sort_tests true false true m U d = refl
sort_tests true true true true U d = refl
sort_tests true true true false true d = refl
sort_tests true true true false false d = refl

are_new_is : (known : List (Option Bool)) (lits : List Lit) → are_new known lits ≡ (list_all (λ v. nat_lt v (length known)) (map (λ l. l.var) lits) && (list_all (unknown known) (map (λ l. l.var) lits) && is_distinct (map (λ l. l.var) lits)))
are_new_is known [] = refl
are_new_is known (l ∷ ls) =
    let vars = map (λ l. l.var) ls in
    let next = set known l.var (Some (not l.positive)) in
    elim (cases_Bool (nat_lt l.var (length known))) [
      | inl here ↦
          (let low = ltb-true l.var (length known) here in
          ap (λ x. (nat_lt l.var (length known) && unknown known l.var) && x) (are_new_is next ls)
          ∙ (ap (λ k. (nat_lt l.var (length known) && unknown known l.var) && (list_all (λ v. nat_lt v k) vars && (list_all (unknown next) vars && is_distinct vars))) (length-set known l.var (Some (not l.positive)))
          ∙ (ap (λ x. (nat_lt l.var (length known) && unknown known l.var) && (list_all (λ v. nat_lt v (length known)) vars && (x && is_distinct vars))) (unknown_all known l.var (not l.positive) vars low)
          ∙ sort_tests (nat_lt l.var (length known)) (unknown known l.var) (list_all (λ v. nat_lt v (length known)) vars) (not (is_among vars l.var)) (list_all (unknown known) vars) (is_distinct vars))))
      | inr other ↦ rw other refl
    ]

unknown_fresh : (n : ℕ) (vs : List ℕ) → list_all (unknown (replicate n nothing)) vs ≡ true
unknown_fresh n [] = refl
unknown_fresh n (v ∷ vs) = ap (λ o. is_none o && list_all (unknown (replicate n nothing)) vs) (none_known n v) ∙ unknown_fresh n vs

-- by fresh marks, the literals are a clause where each is new
pub are_new_fresh : (problem : List (List Constraint)) (n : ℕ) (lits : List Lit) → n ≡ length problem → are_new (replicate n nothing) lits ≡ is_clause problem lits
are_new_fresh problem n lits e =
    let vars = map (λ l. l.var) lits in
    are_new_is (replicate n nothing) lits
    ∙ (ap (λ k. list_all (λ v. nat_lt v k) vars && (list_all (unknown (replicate n nothing)) vars && is_distinct vars)) (length-replicate n nothing ∙ e)
    ∙ ap (λ x. list_all (λ v. nat_lt v (length problem)) vars && (x && is_distinct vars)) (unknown_fresh n vars))

-- Each clause that a hint names is of the problem's variables

below_one : (n : ℕ) (vs : List ℕ) (b : Bool) → AllByRecursion (λ v. v < n) vs → IsBelow n (map (λ v. record { var = v; positive = b }) vs)
below_one n [] b a = tt
below_one n (v ∷ vs) b a = (a.0, below_one n vs b a.1)

among_low : (n : ℕ) (members : List ℕ) (v : ℕ) → AllByRecursion (λ v. v < n) members → is_among members v ≡ true → v < n
among_low n [] v a e = absurd (let bad : false ≡ true = e in cc)
among_low n (m ∷ ms) v a e =
    elim (or_cases (m == v) (is_among ms v) e) [
      | inl same ↦ subst (λ (k : ℕ). k < n) (eqb-true m v same) a.0
      | inr rest ↦ among_low n ms v a.1 rest
    ]

named_low : (n : ℕ) (members named : List ℕ) → AllByRecursion (λ v. v < n) members → list_all (λ v. is_among members v) named ≡ true → AllByRecursion (λ v. v < n) named
named_low n members [] a e = tt
named_low n members (v ∷ vs) a e =
    let parts = and_parts (is_among members v) (list_all (λ v. is_among members v) vs) e in
    (among_low n members v a parts.0, named_low n members vs a parts.1)

some_list : (x y : List Lit) → Some x ≡ Some y → x ≡ y
some_list x y e = cc

given_below : (n v : ℕ) (c : Constraint) (named : List ℕ) (clause : List Lit) → v < n → IsWithin n c → given_clause v c named ≡ Some clause → IsBelow n clause
given_below n v Mandatory [] clause h w e = subst (λ c. IsBelow n c) (some_list (positive v ∷ []) clause e) (h, tt)
given_below n v Prohibited [] clause h w e = subst (λ c. IsBelow n c) (some_list (negative v ∷ []) clause e) (h, tt)
given_below n v (Dependency members) [] clause h w e = subst (λ c. IsBelow n c) (some_list (negative v ∷ map positive members) clause e) (h, below_one n members true w)
given_below n v (Conflict other) [] clause h w e = subst (λ c. IsBelow n c) (some_list (negative v ∷ negative other ∷ []) clause e) (h, (w, tt))
given_below n v (AtMost most members) named clause h w e =
    elim (cases_Bool (is_too_many most members named)) [
      | inl many ↦
          (let e' = rw many at e in
          let parts = and_parts (length named == (most + 1)) (is_distinct named && list_all (λ v. is_among members v) named) many in
          let inner = and_parts (is_distinct named) (list_all (λ v. is_among members v) named) parts.1 in
          subst (λ c. IsBelow n c) (some_list (map negative named) clause e') (below_one n named false (named_low n members named w inner.1)))
      | inr few ↦ (let e' = rw few at e in absurd (let bad : None ≡ Some clause = e' in cc))
    ]
given_below n v Mandatory (x ∷ xs) clause h w e = absurd (let bad : None ≡ Some clause = e in cc)
given_below n v Prohibited (x ∷ xs) clause h w e = absurd (let bad : None ≡ Some clause = e in cc)
given_below n v (Dependency members) (x ∷ xs) clause h w e = absurd (let bad : None ≡ Some clause = e in cc)
given_below n v (Conflict other) (x ∷ xs) clause h w e = absurd (let bad : None ≡ Some clause = e in cc)

pub constraint_within : (n : ℕ) (problem : List (List Constraint)) (v place : ℕ) (c : Constraint) → AllByRecursion (λ cs. AllByRecursion (λ c. IsWithin n c) cs) problem → constraint_at problem v place ≡ Some c → (v < length problem) × IsWithin n c
constraint_within n [] v place c a e = absurd (let bad : None ≡ Some c = e in cc)
constraint_within n (cs ∷ css) zero place c a e = (omega arith, within-place n cs place c a.0 e)
constraint_within n (cs ∷ css) (suc v) place c a e = let r = constraint_within n css v place c a.1 e in (omega (arith, r.0), r.1)

earlier_below : (n : ℕ) (earlier : List (List Lit)) (k : ℕ) (clause : List Lit) → AllByRecursion (IsBelow n) earlier → slice_get earlier k ≡ Some clause → IsBelow n clause
earlier_below n [] k clause a e = absurd (let bad : None ≡ Some clause = e in cc)
earlier_below n (c ∷ cs) zero clause a e = subst (λ k. IsBelow n k) (some_list c clause e) a.0
earlier_below n (c ∷ cs) (suc k) clause a e = earlier_below n cs k clause a.1 e

pub clause_of-below : (problem : List (List Constraint)) (earlier : List (List Lit)) → IsClosed problem → AllByRecursion (IsBelow (length problem)) earlier → (hint : Hint) (clause : List Lit) → clause_of problem earlier hint ≡ Ok clause → IsBelow (length problem) clause
clause_of-below problem earlier closed a (LemmaHint number) clause e = earlier_below (length problem) earlier number clause a (ok_some (slice_get earlier number) NoSuchHint clause e)
clause_of-below problem earlier closed a (Given v place members) clause e =
    let some = ok_some (option_and_then (λ c. given_clause v c members) (constraint_at problem v place)) BadGiven clause e in
    let (c, there, given) = under (λ c. given_clause v c members) (constraint_at problem v place) clause some in
    let w = constraint_within (length problem) problem v place c closed there in
    given_below (length problem) v c members clause w.0 w.1 given

all_same : (problem : List (List Constraint)) (earlier : List (List Lit)) (known : List (Option Bool)) (trail : List Lit) (hints : List Hint) → length known ≡ length problem → ((h : Hint) (clause : List Lit) → clause_of problem earlier h ≡ Ok clause → IsBelow (length problem) clause) → Agrees known trail → answer problem earlier known hints ≡ all_hints_fault problem earlier trail hints
all_same problem earlier known trail [] e b a = refl
all_same problem earlier known trail (hint ∷ hints) e b a = answer_same problem earlier known trail hint hints (length problem) e b a

-- by fresh marks, what the checker answers is the fault
pub fault_same : (problem : List (List Constraint)) (earlier : List (List Lit)) (n : ℕ) (lits : List Lit) (hints : List Hint) → n ≡ length problem → IsClosed problem → AllByRecursion (IsBelow (length problem)) earlier → cond (are_new (replicate n nothing) lits) (answer problem earlier (denied_in (replicate n nothing) lits) hints) (Some BadClause) ≡ fault_of problem earlier lits hints
fault_same problem earlier n lits hints e closed a =
    elim (cases_Bool (is_clause problem lits)) [
      | inl good ↦
          (let new : are_new (replicate n nothing) lits ≡ true = are_new_fresh problem n lits e ∙ good in
          rw good (rw new (all_same problem earlier (denied_in (replicate n nothing) lits) (map denial lits) hints
          (length-denied_in (replicate n nothing) lits ∙ (length-replicate n nothing ∙ e))
          (clause_of-below problem earlier closed a) (Agrees-denied n lits new))))
      | inr bad ↦ (let old : are_new (replicate n nothing) lits ≡ false = are_new_fresh problem n lits e ∙ bad in rw bad (rw old refl))
    ]

pub bad_fault : (problem : List (List Constraint)) (earlier : List (List Lit)) (known : List (Option Bool)) (n : ℕ) (lits : List Lit) (hints : List Hint) → known ≡ replicate n nothing → n ≡ length problem → IsClosed problem → AllByRecursion (IsBelow (length problem)) earlier → are_new known lits ≡ false → Some BadClause ≡ fault_of problem earlier lits hints
bad_fault problem earlier known n lits hints k e closed a b =
    let old : are_new (replicate n nothing) lits ≡ false = ap (λ x. are_new x lits) (sym k) ∙ b in
    sym (cond-false (are_new (replicate n nothing) lits) (answer problem earlier (denied_in (replicate n nothing) lits) hints) (Some BadClause) old) ∙ fault_same problem earlier n lits hints e closed a

pub good_fault : (problem : List (List Constraint)) (earlier : List (List Lit)) (known : List (Option Bool)) (n : ℕ) (lits : List Lit) (hints : List Hint) → known ≡ replicate n nothing → n ≡ length problem → IsClosed problem → AllByRecursion (IsBelow (length problem)) earlier → are_new known lits ≡ true → answer problem earlier (denied_in known lits) hints ≡ fault_of problem earlier lits hints
good_fault problem earlier known n lits hints k e closed a b =
    let new : are_new (replicate n nothing) lits ≡ true = ap (λ x. are_new x lits) (sym k) ∙ b in
    ap (λ x. answer problem earlier (denied_in x lits) hints) k
    ∙ (sym (cond-true (are_new (replicate n nothing) lits) (answer problem earlier (denied_in (replicate n nothing) lits) hints) (Some BadClause) new) ∙ fault_same problem earlier n lits hints e closed a)

low_vars : (n : ℕ) (lits : List Lit) → list_all (λ v. nat_lt v n) (map (λ l. l.var) lits) ≡ true → IsBelow n lits
low_vars n [] e = tt
low_vars n (l ∷ ls) e =
    let parts = and_parts (nat_lt l.var n) (list_all (λ v. nat_lt v n) (map (λ l. l.var) ls)) e in
    (ltb-true l.var n parts.0, low_vars n ls parts.1)

pub clauses_below : (problem : List (List Constraint)) (number : ℕ) (lemmas : List Lemma) → AllByRecursion (λ lemma. IsTrue (is_clause problem lemma.lits)) (take number lemmas) → AllByRecursion (IsBelow (length problem)) (take number (clauses lemmas))
clauses_below problem zero lemmas a = tt
clauses_below problem (suc n) [] a = tt
clauses_below problem (suc n) (lemma ∷ lemmas) a =
    (low_vars (length problem) lemma.lits (and_parts (list_all (λ v. nat_lt v (length problem)) (map (λ l. l.var) lemma.lits)) (is_distinct (map (λ l. l.var) lemma.lits)) a.0).0, clauses_below problem n lemmas a.1)
