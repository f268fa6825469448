-- A constraint is true of a set of which its clauses hold, where an AtMost names each member once.
use Rattle.std.proofs.Common.{◌≡◌, ◌↔◌, ℕ, zero, suc, ◌+◌, ◌<◌, ◌==◌, nat_le, Bool, true, false, not, ◌&&◌, ◌||◌, List, [], ◌∷◌, length, map, take, refl, sym, ap, ◌∙◌, subst, arith, inl, inr, Some, None, slice_get}
use Rattle.std.specs.List.{list_all, filter, count_by, AllByRecursion}
use Rattle.std.proofs.lemmas.Bool.{cases_Bool, or_left, or_right, or_parts, or_from, and_parts, and_from, both_ways, not-true, not_from_true, not_from_false, true_from_ne_false, leb-false, eq-eqb, cond-true}
use Rattle.std.proofs.lemmas.List.{length-take-le}
use Rattle.std.proofs.lemmas.List.Sums.{length-filter}
use Rattle.op_constraints.specs.declared.Lit.{Lit}
use Rattle.op_constraints.specs.declared.Constraint.{Constraint}
use Rattle.op_constraints.specs.declared.Constraint.TheVariants.{Mandatory, Prohibited, Dependency, Conflict, AtMost}
use Rattle.op_constraints.specs.Meets.{constraint_at, is_true_of, Meets}
use Rattle.op_constraints.specs.Walks.{is_among}
use Rattle.derivations.specs.Clauses.{positive, negative, clause_holds, is_too_many, given_clause}
use Rattle.op_constraints.specs.Kept.{is_distinct, HasDistinctMembers}
use Rattle.derivations.specs.Laws.{GivenHold}
use Rattle.derivations.proofs.Sound.{positive-any, given_holds}

among-filter : (p : ℕ → Bool) (vs : List ℕ) (v : ℕ) → is_among vs v ≡ false → is_among (filter p vs) v ≡ false
among-filter p [] v e = e
among-filter p (n ∷ ns) v e =
    let parts = or_parts (n == v) (is_among ns v) e in
    elim (cases_Bool (p n)) [
      | inl here ↦ rw here (or_from (n == v) (is_among (filter p ns) v) parts.0 (among-filter p ns v parts.1))
      | inr other ↦ rw other (among-filter p ns v parts.1)
    ]

pub distinct-filter : (p : ℕ → Bool) (vs : List ℕ) → is_distinct vs ≡ true → is_distinct (filter p vs) ≡ true
distinct-filter p [] d = refl
distinct-filter p (n ∷ ns) d =
    let parts = and_parts (not (is_among ns n)) (is_distinct ns) d in
    elim (cases_Bool (p n)) [
      | inl here ↦ rw here (and_from (not (is_among (filter p ns) n)) (is_distinct (filter p ns)) (not_from_false (is_among (filter p ns) n) (among-filter p ns n (not-true (is_among ns n) parts.0))) (distinct-filter p ns parts.1))
      | inr other ↦ rw other (distinct-filter p ns parts.1)
    ]

among-take : (k : ℕ) (vs : List ℕ) (v : ℕ) → is_among vs v ≡ false → is_among (take k vs) v ≡ false
among-take zero vs v e = refl
among-take (suc k) [] v e = refl
among-take (suc k) (n ∷ ns) v e =
    let parts = or_parts (n == v) (is_among ns v) e in or_from (n == v) (is_among (take k ns) v) parts.0 (among-take k ns v parts.1)

pub distinct-take : (k : ℕ) (vs : List ℕ) → is_distinct vs ≡ true → is_distinct (take k vs) ≡ true
distinct-take zero vs d = refl
distinct-take (suc k) [] d = refl
distinct-take (suc k) (n ∷ ns) d =
    let parts = and_parts (not (is_among ns n)) (is_distinct ns) d in
    and_from (not (is_among (take k ns) n)) (is_distinct (take k ns)) (not_from_false (is_among (take k ns) n) (among-take k ns n (not-true (is_among ns n) parts.0))) (distinct-take k ns parts.1)

all-take : (f : ℕ → Bool) (k : ℕ) (vs : List ℕ) → list_all f vs ≡ true → list_all f (take k vs) ≡ true
all-take f zero vs a = refl
all-take f (suc k) [] a = refl
all-take f (suc k) (n ∷ ns) a = let parts = and_parts (f n) (list_all f ns) a in and_from (f n) (list_all f (take k ns)) parts.0 (all-take f k ns parts.1)

pub among_weaker : (m : ℕ) (ms vs : List ℕ) → list_all (λ v. is_among ms v) vs ≡ true → list_all (λ v. is_among (m ∷ ms) v) vs ≡ true
among_weaker m ms [] a = refl
among_weaker m ms (v ∷ vs) a =
    let parts = and_parts (is_among ms v) (list_all (λ v. is_among ms v) vs) a in
    and_from (is_among (m ∷ ms) v) (list_all (λ v. is_among (m ∷ ms) v) vs) (or_right (m == v) (is_among ms v) parts.0) (among_weaker m ms vs parts.1)

filter_within : (p : ℕ → Bool) (ms : List ℕ) → list_all (λ v. is_among ms v) (filter p ms) ≡ true
filter_within p [] = refl
filter_within p (m ∷ ms) =
    elim (cases_Bool (p m)) [
      | inl here ↦ rw here (and_from (is_among (m ∷ ms) m) (list_all (λ v. is_among (m ∷ ms) v) (filter p ms)) (or_left (m == m) (is_among ms m) (eq-eqb m m refl)) (among_weaker m ms (filter p ms) (filter_within p ms)))
      | inr other ↦ rw other (among_weaker m ms (filter p ms) (filter_within p ms))
    ]

pub filter_all : (p : ℕ → Bool) (ms : List ℕ) → list_all p (filter p ms) ≡ true
filter_all p [] = refl
filter_all p (m ∷ ms) =
    elim (cases_Bool (p m)) [
      | inl here ↦ rw here (and_from (p m) (list_all p (filter p ms)) here (filter_all p ms))
      | inr other ↦ rw other (filter_all p ms)
    ]

none_out : (set : ℕ → Bool) (vs : List ℕ) → list_all set vs ≡ true → clause_holds set (map negative vs) ≡ false
none_out set [] a = refl
none_out set (v ∷ vs) a =
    let parts = and_parts (set v) (list_all set vs) a in
    or_from (not (set v)) (clause_holds set (map negative vs)) (not_from_true (set v) parts.0) (none_out set vs parts.1)

-- the first most + 1 members that are in, where there are so many
chosen_named : (set : ℕ → Bool) (most : ℕ) (members : List ℕ) → is_distinct members ≡ true → most < count_by set members → is_too_many most members (take (most + 1) (filter set members)) ≡ true
chosen_named set most members d h =
    let named = take (most + 1) (filter set members) in
    let long : length named ≡ most + 1 = length-take-le (most + 1) (filter set members) (omega (arith, length-filter set members)) in
    and_from (length named == (most + 1)) (is_distinct named && list_all (λ v. is_among members v) named)
    (eq-eqb (length named) (most + 1) long)
    (and_from (is_distinct named) (list_all (λ v. is_among members v) named)
    (distinct-take (most + 1) (filter set members) (distinct-filter set members d))
    (all-take (λ v. is_among members v) (most + 1) (filter set members) (filter_within set members)))

unit_holds : (b : Bool) → (b || false) ≡ true → b ≡ true
unit_holds true e = refl
unit_holds false e = e

either_holds : (a b : Bool) → (a || (b || false)) ≡ true → (a || b) ≡ true
either_holds true b e = refl
either_holds false b e = unit_holds b e

pub true_by_clauses : (set : ℕ → Bool) (v : ℕ) (c : Constraint) → HasDistinctMembers c → ((named : List ℕ) (clause : List Lit) → given_clause v c named ≡ Some clause → clause_holds set clause ≡ true) → is_true_of set v c ≡ true
true_by_clauses set v Mandatory d f = unit_holds (set v) (f [] (positive v ∷ []) refl)
true_by_clauses set v Prohibited d f = unit_holds (not (set v)) (f [] (negative v ∷ []) refl)
true_by_clauses set v (Dependency members) d f = ap (λ b. not (set v) || b) (sym (positive-any set members)) ∙ f [] (negative v ∷ map positive members) refl
true_by_clauses set v (Conflict other) d f = either_holds (not (set v)) (not (set other)) (f [] (negative v ∷ negative other ∷ []) refl)
true_by_clauses set v (AtMost most members) d f =
    true_from_ne_false (nat_le (count_by set members) most) (λ over.
    let more : most < count_by set members = leb-false (count_by set members) most over in
    let named = take (most + 1) (filter set members) in
    let given : given_clause v (AtMost most members) named ≡ Some (map negative named) = cond-true (is_too_many most members named) (Some (map negative named)) None (chosen_named set most members d more) in
    both_ways (clause_holds set (map negative named)) (none_out set named (all-take set (most + 1) (filter set members) (filter_all set members))) (f named (map negative named) given))

at_place : (cs : List Constraint) (place : ℕ) (c : Constraint) → AllByRecursion HasDistinctMembers cs → slice_get cs place ≡ Some c → HasDistinctMembers c
at_place [] place c a e = absurd (let bad : None ≡ Some c = e in cc)
at_place (d ∷ ds) zero c a e = let same : d ≡ c = cc in subst (λ (k : Constraint). HasDistinctMembers k) same a.0
at_place (d ∷ ds) (suc place) c a e = at_place ds place c a.1 e

distinct_at : (problem : List (List Constraint)) (v place : ℕ) (c : Constraint) → AllByRecursion (λ cs. AllByRecursion HasDistinctMembers cs) problem → constraint_at problem v place ≡ Some c → HasDistinctMembers c
distinct_at [] v place c a e = absurd (let bad : None ≡ Some c = e in cc)
distinct_at (cs ∷ css) zero place c a e = at_place cs place c a.0 e
distinct_at (cs ∷ css) (suc v) place c a e = distinct_at css v place c a.1 e

-- a set meets the problem exactly where every given clause holds of it
pub clauses_are_problem : (problem : List (List Constraint)) (set : ℕ → Bool) → AllByRecursion (λ cs. AllByRecursion HasDistinctMembers cs) problem → Meets problem set ↔ GivenHold problem set
clauses_are_problem problem set d = (
  λ m v place c named clause at given. given_holds set v c named clause (m v place c at) given,
  λ g v place c at. true_by_clauses set v c (distinct_at problem v place c d at) (λ named clause given. g v place c named clause at given),
)
