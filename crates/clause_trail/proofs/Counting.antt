-- What an AtMost says over a trail, by how many members are known to be in.
use Rattle.std.proofs.Common.{◌≡◌, ℕ, zero, suc, ◌+◌, ◌<◌, ◌≤◌, ◌==◌, Bool, true, false, not, cond, ◌&&◌, ◌||◌, List, [], ◌∷◌, length, map, take, refl, sym, ap, ◌∙◌, subst, arith, inl, inr, Option, Some, None}
use Rattle.std.specs.List.{list_all, filter, count_by, AllByRecursion}
use Rattle.std.proofs.lemmas.Bool.{cases_Bool, or_cases, or_left, or_right, or_parts, or_from, and_parts, and_from, both_ways, not-true, not_from_false, true_from_ne_false, false_from_ne_true, eq-eqb, eqb-true, cond-true, cond-false}
use Rattle.std.proofs.lemmas.List.{length-take-le}
use Rattle.std.proofs.lemmas.List.Sums.{length-filter}
use mathlib.Core.Bool.{beq}
use Rattle.op_constraints.specs.declared.Lit.{Lit}
use Rattle.op_constraints.specs.declared.Constraint.{Constraint}
use Rattle.op_constraints.specs.declared.Constraint.TheVariants.{AtMost}
use Rattle.op_constraints.specs.Walks.{is_among}
use Rattle.op_constraints.specs.Kept.{is_distinct}
use Rattle.op_constraints.proofs.Full.{count_by-cons}
use Rattle.derivations.specs.Clauses.{positive, negative, denial, is_same, is_in, is_too_many, given_clause}
use Rattle.derivations.specs.Follows.{left, forced, is_nothing}
use Rattle.derivations.proofs.Sound.{named_count}
use Rattle.derivations.proofs.Converse.{distinct-filter, distinct-take, among_weaker, filter_all}
use Rattle.clause_trail.specs.Trails.{IsUnknown, IsKnown, IsSettled}
use Rattle.clause_trail.specs.Scans.{IsSettledGiven}
use Rattle.clause_trail.proofs.Literals.{same_itself, beq_same, all_false, nothing_others, forced_alone, forced_new, forced_others}

abbrev pub is_known_in : List Lit → ℕ → Bool
is_known_in trail v = is_in trail (positive v)

all-take : (f : ℕ → Bool) (k : ℕ) (vs : List ℕ) → list_all f vs ≡ true → list_all f (take k vs) ≡ true
all-take f zero vs a = refl
all-take f (suc k) [] a = refl
all-take f (suc k) (n ∷ ns) a = let parts = and_parts (f n) (list_all f ns) a in and_from (f n) (list_all f (take k ns)) parts.0 (all-take f k ns parts.1)

filter_within : (p : ℕ → Bool) (ms : List ℕ) → list_all (λ v. is_among ms v) (filter p ms) ≡ true
filter_within p [] = refl
filter_within p (m ∷ ms) =
    elim (cases_Bool (p m)) [
      | inl here ↦ rw here (and_from (is_among (m ∷ ms) m) (list_all (λ v. is_among (m ∷ ms) v) (filter p ms)) (or_left (m == m) (is_among ms m) (eq-eqb m m refl)) (among_weaker m ms (filter p ms) (filter_within p ms)))
      | inr other ↦ rw other (among_weaker m ms (filter p ms) (filter_within p ms))
    ]

chosen_named : (set : ℕ → Bool) (most : ℕ) (members : List ℕ) → is_distinct members ≡ true → most < count_by set members → is_too_many most members (take (most + 1) (filter set members)) ≡ true
chosen_named set most members d h =
    let named = take (most + 1) (filter set members) in
    let long : length named ≡ most + 1 = length-take-le (most + 1) (filter set members) (omega (arith, length-filter set members)) in
    and_from (length named == (most + 1)) (is_distinct named && list_all (λ v. is_among members v) named)
    (eq-eqb (length named) (most + 1) long)
    (and_from (is_distinct named) (list_all (λ v. is_among members v) named)
    (distinct-take (most + 1) (filter set members) (distinct-filter set members d))
    (all-take (λ v. is_among members v) (most + 1) (filter set members) (filter_within set members)))

all_denied : (trail : List Lit) (named : List ℕ) → list_all (is_known_in trail) named ≡ true → list_all (λ k. is_in trail (denial k)) (map negative named) ≡ true
all_denied trail [] a = refl
all_denied trail (v ∷ vs) a =
    let parts = and_parts (is_known_in trail v) (list_all (is_known_in trail) vs) a in
    and_from (is_known_in trail v) (list_all (λ k. is_in trail (denial k)) (map negative vs)) parts.0 (all_denied trail vs parts.1)

all_known : (trail : List Lit) (named : List ℕ) → list_all (λ k. is_in trail (denial k)) (map negative named) ≡ true → list_all (is_known_in trail) named ≡ true
all_known trail [] a = refl
all_known trail (v ∷ vs) a =
    let parts = and_parts (is_known_in trail v) (list_all (λ k. is_in trail (denial k)) (map negative vs)) a in
    and_from (is_known_in trail v) (list_all (is_known_in trail) vs) parts.0 (all_known trail vs parts.1)

-- the first most + 1 members that are in give a clause that is false
pub many-given : (trail : List Lit) (v most : ℕ) (members : List ℕ) → is_distinct members ≡ true → most < count_by (is_known_in trail) members → given_clause v (AtMost most members) (take (most + 1) (filter (is_known_in trail) members)) ≡ Some (map negative (take (most + 1) (filter (is_known_in trail) members)))
many-given trail v most members d h =
    let named = take (most + 1) (filter (is_known_in trail) members) in
    cond-true (is_too_many most members named) (Some (map negative named)) None (chosen_named (is_known_in trail) most members d h)

pub many-false : (trail : List Lit) (most : ℕ) (members : List ℕ) → is_nothing (left trail (map negative (take (most + 1) (filter (is_known_in trail) members)))) ≡ true
many-false trail most members =
    let named = take (most + 1) (filter (is_known_in trail) members) in
    ap is_nothing (all_false trail (map negative named) (all_denied trail named (all-take (is_known_in trail) (most + 1) (filter (is_known_in trail) members) (filter_all (is_known_in trail) members))))

among-filter_in : (p : ℕ → Bool) (vs : List ℕ) (w : ℕ) → p w ≡ false → is_among (filter p vs) w ≡ false
among-filter_in p [] w h = refl
among-filter_in p (v ∷ vs) w h =
    elim (cases_Bool (p v)) [
      | inl here ↦ rw here (or_from (v == w) (is_among (filter p vs) w)
          (false_from_ne_true (v == w) (λ e. both_ways (p w) h (subst (λ (u : ℕ). p u ≡ true) (eqb-true v w e) here)))
          (among-filter_in p vs w h))
      | inr other ↦ rw other (among-filter_in p vs w h)
    ]

full_named : (set : ℕ → Bool) (most : ℕ) (members : List ℕ) (w : ℕ) → is_distinct members ≡ true → count_by set members ≡ most → set w ≡ false → is_among members w ≡ true → is_too_many most members (w ∷ filter set members) ≡ true
full_named set most members w d n out m =
    let named : List ℕ = w ∷ filter set members in
    and_from (length named == (most + 1)) (is_distinct named && list_all (λ v. is_among members v) named)
    (eq-eqb (length named) (most + 1) (let size = length-filter set members in omega (arith, size, n)))
    (and_from (is_distinct named) (list_all (λ v. is_among members v) named)
    (and_from (not (is_among (filter set members) w)) (is_distinct (filter set members)) (not_from_false (is_among (filter set members) w) (among-filter_in set members w out)) (distinct-filter set members d))
    (and_from (is_among members w) (list_all (λ v. is_among members v) (filter set members)) m (filter_within set members)))

-- an unknown member and as many that are in as may be give a clause that forces the unknown one out
pub full-given : (trail : List Lit) (v most : ℕ) (members : List ℕ) (w : ℕ) → is_distinct members ≡ true → count_by (is_known_in trail) members ≡ most → IsUnknown trail (negative w) → is_among members w ≡ true → given_clause v (AtMost most members) (w ∷ filter (is_known_in trail) members) ≡ Some (map negative (w ∷ filter (is_known_in trail) members))
full-given trail v most members w d n u m =
    let named : List ℕ = w ∷ filter (is_known_in trail) members in
    cond-true (is_too_many most members named) (Some (map negative named)) None (full_named (is_known_in trail) most members w d n u.1 m)

others_denied : (trail : List Lit) (l : Lit) (named : List ℕ) → list_all (is_known_in trail) named ≡ true → list_all (λ k. is_same k l || is_in trail (denial k)) (map negative named) ≡ true
others_denied trail l [] a = refl
others_denied trail l (v ∷ vs) a =
    let parts = and_parts (is_known_in trail v) (list_all (is_known_in trail) vs) a in
    and_from (is_same (negative v) l || is_in trail (positive v)) (list_all (λ k. is_same k l || is_in trail (denial k)) (map negative vs))
    (or_right (is_same (negative v) l) (is_in trail (positive v)) parts.0) (others_denied trail l vs parts.1)

pub full-forced : (trail : List Lit) (members : List ℕ) (w : ℕ) → IsUnknown trail (negative w) → forced trail (map negative (w ∷ filter (is_known_in trail) members)) ≡ Some (negative w)
full-forced trail members w u =
    let rest : List Lit = map negative (filter (is_known_in trail) members) in
    forced_alone trail (negative w ∷ rest) (negative w)
    (or_left (is_same (negative w) (negative w)) (is_in rest (negative w)) (same_itself (negative w)))
    u.0 u.1
    (and_from (is_same (negative w) (negative w) || is_in trail (positive w)) (list_all (λ k. is_same k (negative w) || is_in trail (denial k)) rest)
    (or_left (is_same (negative w) (negative w)) (is_in trail (positive w)) (same_itself (negative w)))
    (others_denied trail (negative w) (filter (is_known_in trail) members) (filter_all (is_known_in trail) members)))

-- a literal of a clause of denials is the denial of one of them
in_negatives : (vs : List ℕ) (l : Lit) → is_in (map negative vs) l ≡ true → (is_among vs l.var ≡ true) × (negative l.var ≡ l)
in_negatives [] l e = absurd (let bad : false ≡ true = e in cc)
in_negatives (v ∷ vs) l e =
    elim (or_cases (is_same (negative v) l) (is_in (map negative vs) l) e) [
      | inl here ↦
          (let parts = and_parts (v == l.var) (beq false l.positive) here in
          let with_sign : Bool → Lit = λ b. record { var = l.var; positive = b } in
          (or_left (v == l.var) (is_among vs l.var) parts.0, ap with_sign (beq_same false l.positive parts.1)))
      | inr rest ↦ (let more = in_negatives vs l rest in (or_right (v == l.var) (is_among vs l.var) more.0, more.1))
    ]

or_one : (trail : List Lit) (l : Lit) (named : List ℕ) → list_all (λ k. is_same k l || is_in trail (denial k)) (map negative named) ≡ true → list_all (λ v. (v == l.var) || is_known_in trail v) named ≡ true
or_one trail l [] a = refl
or_one trail l (v ∷ vs) a =
    let parts = and_parts (is_same (negative v) l || is_in trail (positive v)) (list_all (λ k. is_same k l || is_in trail (denial k)) (map negative vs)) a in
    and_from ((v == l.var) || is_known_in trail v) (list_all (λ v. (v == l.var) || is_known_in trail v) vs)
    (elim (or_cases (is_same (negative v) l) (is_in trail (positive v)) parts.0) [
      | inl same ↦ or_left (v == l.var) (is_known_in trail v) (let inner = and_parts (v == l.var) (beq false l.positive) same in inner.0)
      | inr known ↦ or_right (v == l.var) (is_known_in trail v) known
    ])
    (or_one trail l vs parts.1)

count-same : (set : ℕ → Bool) (w : ℕ) (ms : List ℕ) → is_among ms w ≡ false → count_by (λ v. (v == w) || set v) ms ≡ count_by set ms
count-same set w [] e = refl
count-same set w (m ∷ ms) e =
    let parts = or_parts (m == w) (is_among ms w) e in
    let more : ℕ → Bool = λ v. (v == w) || set v in
    let here : more m ≡ set m = ap (λ b. b || set m) parts.0 in
    count_by-cons more m ms (set m) here ∙ (ap (λ n. cond (set m) 1 0 + n) (count-same set w ms parts.1) ∙ sym (count_by-cons set m ms (set m) refl))

count-more : (set : ℕ → Bool) (w : ℕ) (ms : List ℕ) → is_distinct ms ≡ true → count_by (λ v. (v == w) || set v) ms ≤ count_by set ms + 1
count-more set w [] d = omega arith
count-more set w (m ∷ ms) d =
    let parts = and_parts (not (is_among ms m)) (is_distinct ms) d in
    let more : ℕ → Bool = λ v. (v == w) || set v in
    let old = count_by-cons set m ms (set m) refl in
    elim (cases_Bool (m == w)) [
      | inl same ↦
          (let absent : is_among ms w ≡ false = subst (λ (k : ℕ). is_among ms k ≡ false) (eqb-true m w same) (not-true (is_among ms m) parts.0) in
          let new = count_by-cons more m ms true (or_left (m == w) (set m) same) in
          let rest = count-same set w ms absent in
          omega (arith, old, new, rest))
      | inr other ↦
          (let here : more m ≡ set m = ap (λ b. b || set m) other in
          let new = count_by-cons more m ms (set m) here in
          let rest = count-more set w ms parts.1 in
          omega (arith, old, new, rest))
    ]

none_from : (o : Option Lit) → ((l : Lit) → o ≡ Some l → ⊥) → o ≡ None
none_from None h = refl
none_from (Some l) h = absurd (h l refl)

many_settled : (trail : List Lit) (most : ℕ) (members named : List ℕ) → is_too_many most members named ≡ true → count_by (is_known_in trail) members ≤ most
    → ((w : ℕ) → is_among named w ≡ true → IsUnknown trail (negative w) → list_all (λ v. (v == w) || is_known_in trail v) named ≡ true → ⊥)
    → IsSettled trail (map negative named)
many_settled trail most members named t few never =
    let parts = and_parts (length named == (most + 1)) (is_distinct named && list_all (λ v. is_among members v) named) t in
    let inner = and_parts (is_distinct named) (list_all (λ v. is_among members v) named) parts.1 in
    let long : length named ≡ most + 1 = eqb-true (length named) (most + 1) parts.0 in
    record {
      unfalse = false_from_ne_true (is_nothing (left trail (map negative named))) (λ e.
          let count = named_count (is_known_in trail) members named inner.0 inner.1 (all_known trail named (nothing_others trail (map negative named) e)) in
          omega (arith, long, count, few));
      quiet = none_from (forced trail (map negative named)) (λ l f.
          let new = forced_new trail (map negative named) l f in
          let at = in_negatives named l new.0 in
          let unknown : IsUnknown trail (negative l.var) = subst (λ (k : Lit). IsUnknown trail k) (sym at.1) (new.1, new.2) in
          never l.var at.0 unknown (or_one trail l named (forced_others trail (map negative named) l f)));
    }

given-parts : (v most : ℕ) (members named : List ℕ) (clause : List Lit) → given_clause v (AtMost most members) named ≡ Some clause → (is_too_many most members named ≡ true) × (map negative named ≡ clause)
given-parts v most members named clause g =
    elim (cases_Bool (is_too_many most members named)) [
      | inl holds ↦ (holds, (let is : map negative named ≡ clause = cc (sym (cond-true (is_too_many most members named) (Some (map negative named)) None holds) ∙ g) in is))
      | inr fails ↦ absurd (let none : None ≡ Some clause = sym (cond-false (is_too_many most members named) (Some (map negative named)) None fails) ∙ g in cc)
    ]

-- with fewer in than may be, each clause has two literals left
pub few-settled : (trail : List Lit) (v most : ℕ) (members : List ℕ) → is_distinct members ≡ true → count_by (is_known_in trail) members < most → IsSettledGiven trail v (AtMost most members)
few-settled trail v most members d h named clause g =
    let parts = given-parts v most members named clause g in
    let t = and_parts (length named == (most + 1)) (is_distinct named && list_all (λ v. is_among members v) named) parts.0 in
    let inner = and_parts (is_distinct named) (list_all (λ v. is_among members v) named) t.1 in
    let long : length named ≡ most + 1 = eqb-true (length named) (most + 1) t.0 in
    subst (λ (c : List Lit). IsSettled trail c) parts.1 (many_settled trail most members named parts.0 (omega (arith, h)) (λ w m u a.
    let count = named_count (λ v. (v == w) || is_known_in trail v) members named inner.0 inner.1 a in
    let more = count-more (is_known_in trail) w members d in
    omega (arith, long, count, more, h)))

among-all : (members named : List ℕ) (w : ℕ) → list_all (λ v. is_among members v) named ≡ true → is_among named w ≡ true → is_among members w ≡ true
among-all members [] w a e = absurd (let bad : false ≡ true = e in cc)
among-all members (n ∷ ns) w a e =
    let parts = and_parts (is_among members n) (list_all (λ v. is_among members v) ns) a in
    elim (or_cases (n == w) (is_among ns w) e) [
      | inl here ↦ subst (λ (k : ℕ). is_among members k ≡ true) (eqb-true n w here) parts.0
      | inr rest ↦ among-all members ns w parts.1 rest
    ]

known-at : (trail : List Lit) (members : List ℕ) (w : ℕ) → AllByRecursion (λ v. IsKnown trail v) members → is_among members w ≡ true → IsKnown trail w
known-at trail [] w a e = absurd (let bad : false ≡ true = e in cc)
known-at trail (m ∷ ms) w a e =
    elim (or_cases (m == w) (is_among ms w) e) [
      | inl here ↦ subst (λ (k : ℕ). IsKnown trail k) (eqb-true m w here) a.0
      | inr rest ↦ known-at trail ms w a.1 rest
    ]

-- where no more are in than may be and the others are out, no clause forces anything
pub known-settled : (trail : List Lit) (v most : ℕ) (members : List ℕ) → count_by (is_known_in trail) members ≤ most → AllByRecursion (λ v. IsKnown trail v) members → IsSettledGiven trail v (AtMost most members)
known-settled trail v most members h known named clause g =
    let parts = given-parts v most members named clause g in
    let t = and_parts (length named == (most + 1)) (is_distinct named && list_all (λ v. is_among members v) named) parts.0 in
    let inner = and_parts (is_distinct named) (list_all (λ v. is_among members v) named) t.1 in
    subst (λ (c : List Lit). IsSettled trail c) parts.1 (many_settled trail most members named parts.0 h (λ w m u a.
    let k = known-at trail members w known (among-all members named w inner.1 m) in
    both_ways (is_in trail (positive w) || is_in trail (negative w)) (or_from (is_in trail (positive w)) (is_in trail (negative w)) u.1 u.0) k))
