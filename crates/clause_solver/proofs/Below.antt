-- Each clause that a hint names is of the problem's variables.
use Rattle.std.proofs.Common.{◌≡◌, ℕ, zero, suc, ◌+◌, ◌<◌, ◌==◌, Bool, true, false, ◌&&◌, List, [], ◌∷◌, length, map, subst, arith, inl, inr, Some, None, Ok, nat_lt, slice_get}
use Rattle.std.specs.Option.{option_and_then}
use Rattle.std.specs.List.{list_all, AllByRecursion}
use Rattle.std.proofs.lemmas.Bool.{cases_Bool, and_parts, ltb-true, eqb-true, or_cases}
use Rattle.op_constraints.proofs.Taking.{within-place}
use Rattle.op_constraints.proofs.WalkLaws.{under}
use Rattle.op_constraints.specs.declared.Lit.{Lit}
use Rattle.op_constraints.specs.declared.Constraint.{Constraint}
use Rattle.op_constraints.specs.declared.Constraint.TheVariants.{Mandatory, Prohibited, Dependency, Conflict, AtMost}
use Rattle.op_constraints.specs.Meets.{constraint_at, IsWithin, IsClosed}
use Rattle.op_constraints.specs.Walks.{is_among}
use Rattle.op_constraints.specs.Kept.{is_distinct}
use Rattle.derivations.specs.declared.Hint.{Hint}
use Rattle.derivations.specs.declared.Hint.TheVariants.{Lemma as LemmaHint, Given}
use Rattle.derivations.specs.declared.LogCause.TheVariants.{NoSuchHint, BadGiven}
use Rattle.derivations.specs.Clauses.{positive, negative, is_same, is_in, is_too_many, given_clause}
use Rattle.derivations.specs.Follows.{clause_of, is_clause}
use Rattle.derivations.proofs.Grows.{ok_some}
use Rattle.clause_analysis.proofs.Needed.{same_var}
use Rattle.clause_solver.specs.Held.{AreClauses}

abbrev pub IsBelow : ℕ → List Lit → Type 0
IsBelow n [] = Unit {0}
IsBelow n (l ∷ ls) = (l.var < n) × IsBelow n ls

below_one : (n : ℕ) (vs : List ℕ) (b : Bool) → AllByRecursion (λ v. v < n) vs → IsBelow n (map (λ v. record { var = v; positive = b }) vs)
below_one n [] b a = tt
below_one n (v ∷ vs) b a = (a.0, below_one n vs b a.1)

among_low : (n : ℕ) (members : List ℕ) (v : ℕ) → AllByRecursion (λ v. v < n) members → is_among members v ≡ true → v < n
among_low n [] v a e = absurd (let bad : false ≡ true = e in cc)
among_low n (m ∷ ms) v a e =
    elim (or_cases (m == v) (is_among ms v) e) [
      | inl same ↦ subst (λ (k : ℕ). k < n) (eqb-true m v same) a.0
      | inr rest ↦ among_low n ms v a.1 rest
    ]

named_low : (n : ℕ) (members named : List ℕ) → AllByRecursion (λ v. v < n) members → list_all (λ v. is_among members v) named ≡ true → AllByRecursion (λ v. v < n) named
named_low n members [] a e = tt
named_low n members (v ∷ vs) a e =
    let parts = and_parts (is_among members v) (list_all (λ v. is_among members v) vs) e in
    (among_low n members v a parts.0, named_low n members vs a parts.1)

some_list : (x y : List Lit) → Some x ≡ Some y → x ≡ y
some_list x y e = cc

given_below : (n v : ℕ) (c : Constraint) (named : List ℕ) (clause : List Lit) → v < n → IsWithin n c → given_clause v c named ≡ Some clause → IsBelow n clause
given_below n v Mandatory [] clause h w e = subst (λ c. IsBelow n c) (some_list (positive v ∷ []) clause e) (h, tt)
given_below n v Prohibited [] clause h w e = subst (λ c. IsBelow n c) (some_list (negative v ∷ []) clause e) (h, tt)
given_below n v (Dependency members) [] clause h w e = subst (λ c. IsBelow n c) (some_list (negative v ∷ map positive members) clause e) (h, below_one n members true w)
given_below n v (Conflict other) [] clause h w e = subst (λ c. IsBelow n c) (some_list (negative v ∷ negative other ∷ []) clause e) (h, (w, tt))
given_below n v (AtMost most members) named clause h w e =
    elim (cases_Bool (is_too_many most members named)) [
      | inl many ↦
          (let e' = rw many at e in
          let parts = and_parts (length named == (most + 1)) (is_distinct named && list_all (λ v. is_among members v) named) many in
          let inner = and_parts (is_distinct named) (list_all (λ v. is_among members v) named) parts.1 in
          subst (λ c. IsBelow n c) (some_list (map negative named) clause e') (below_one n named false (named_low n members named w inner.1)))
      | inr few ↦ (let e' = rw few at e in absurd (let bad : None ≡ Some clause = e' in cc))
    ]
given_below n v Mandatory (x ∷ xs) clause h w e = absurd (let bad : None ≡ Some clause = e in cc)
given_below n v Prohibited (x ∷ xs) clause h w e = absurd (let bad : None ≡ Some clause = e in cc)
given_below n v (Dependency members) (x ∷ xs) clause h w e = absurd (let bad : None ≡ Some clause = e in cc)
given_below n v (Conflict other) (x ∷ xs) clause h w e = absurd (let bad : None ≡ Some clause = e in cc)

pub constraint_within : (n : ℕ) (problem : List (List Constraint)) (v place : ℕ) (c : Constraint) → AllByRecursion (λ cs. AllByRecursion (λ c. IsWithin n c) cs) problem → constraint_at problem v place ≡ Some c → (v < length problem) × IsWithin n c
constraint_within n [] v place c a e = absurd (let bad : None ≡ Some c = e in cc)
constraint_within n (cs ∷ css) zero place c a e = (omega arith, within-place n cs place c a.0 e)
constraint_within n (cs ∷ css) (suc v) place c a e = let r = constraint_within n css v place c a.1 e in (omega (arith, r.0), r.1)

earlier_below : (n : ℕ) (earlier : List (List Lit)) (k : ℕ) (clause : List Lit) → AllByRecursion (IsBelow n) earlier → slice_get earlier k ≡ Some clause → IsBelow n clause
earlier_below n [] k clause a e = absurd (let bad : None ≡ Some clause = e in cc)
earlier_below n (c ∷ cs) zero clause a e = subst (λ k. IsBelow n k) (some_list c clause e) a.0
earlier_below n (c ∷ cs) (suc k) clause a e = earlier_below n cs k clause a.1 e

pub clause_of-below : (problem : List (List Constraint)) (earlier : List (List Lit)) → IsClosed problem → AllByRecursion (IsBelow (length problem)) earlier → (hint : Hint) (clause : List Lit) → clause_of problem earlier hint ≡ Ok clause → IsBelow (length problem) clause
clause_of-below problem earlier closed a (LemmaHint number) clause e = earlier_below (length problem) earlier number clause a (ok_some (slice_get earlier number) NoSuchHint clause e)
clause_of-below problem earlier closed a (Given v place members) clause e =
    let some = ok_some (option_and_then (λ c. given_clause v c members) (constraint_at problem v place)) BadGiven clause e in
    let (c, there, given) = under (λ c. given_clause v c members) (constraint_at problem v place) clause some in
    let w = constraint_within (length problem) problem v place c closed there in
    given_below (length problem) v c members clause w.0 w.1 given

low_vars : (n : ℕ) (lits : List Lit) → list_all (λ v. nat_lt v n) (map (λ l. l.var) lits) ≡ true → IsBelow n lits
low_vars n [] e = tt
low_vars n (l ∷ ls) e =
    let parts = and_parts (nat_lt l.var n) (list_all (λ v. nat_lt v n) (map (λ l. l.var) ls)) e in
    (ltb-true l.var n parts.0, low_vars n ls parts.1)

pub clause_below : (problem : List (List Constraint)) (c : List Lit) → is_clause problem c ≡ true → IsBelow (length problem) c
clause_below problem c is =
    let vars : List ℕ = map (λ l. l.var) c in
    let parts = and_parts (list_all (λ v. nat_lt v (length problem)) vars) (is_distinct vars) is in
    low_vars (length problem) c parts.0

all_low : (problem : List (List Constraint)) (lemmas : List (List Lit)) → AreClauses problem lemmas → AllByRecursion (IsBelow (length problem)) lemmas
all_low problem [] a = tt
all_low problem (c ∷ cs) a =
    (clause_below problem c a.0, all_low problem cs a.1)

pub below_in : (n : ℕ) (ls : List Lit) (l : Lit) → IsBelow n ls → is_in ls l ≡ true → l.var < n
below_in n [] l b i = absurd (let bad : false ≡ true = i in cc)
below_in n (k ∷ ks) l b i =
    elim (or_cases (is_same k l) (is_in ks l) i) [
      | inl same ↦ subst (λ v. v < n) (same_var k l same) b.0
      | inr rest ↦ below_in n ks l b.1 rest
    ]

-- each clause that a hint names is of the problem's variables
pub named_below : (problem : List (List Constraint)) (lemmas : List (List Lit)) → IsClosed problem → AreClauses problem lemmas → (hint : Hint) (clause : List Lit) → clause_of problem lemmas hint ≡ Ok clause → IsBelow (length problem) clause
named_below problem lemmas closed a = clause_of-below problem lemmas closed (all_low problem lemmas a)
