-- What a walk keeps as it begins, takes a number and gives one back.
use Rattle.std.proofs.Common.{◌≡◌, ℕ, zero, suc, ◌<◌, ◌≤◌, Bool, true, false, not, ◌||◌, List, [], ◌∷◌, ◌++◌, refl, sym, ap, ◌∙◌, arith, inl, inr, length, get_or, set, eqb, replicate}
use std.Path.{fun_ext}
use Rattle.std.proofs.Math.Bool.{or-false}
use Rattle.std.specs.List.{list_any, AllByRecursion, IsDistinct}
use Rattle.std.proofs.lemmas.Bool.{cases_eq, or_cases, or_left, or_right, or_from, or_parts, and_from, and_parts, eqb-true, eq-eqb, ne_eqb, not-true, not_from_false, both_ways}
use Rattle.std.proofs.lemmas.List.{get_or-set_same, get_or-set_other}
use Rattle.std.proofs.lemmas.List.Folds.{list_any-append}
use Rattle.std.proofs.lemmas.Map.Steps.{length-le_from_distinct_below}
use Rattle.op_constraints.specs.Meets.{at}
use Rattle.op_constraints.specs.Walks.{is_among}
use Rattle.op_constraints.specs.Kept.{is_distinct}
use Rattle.op_constraints.specs.WalkInvariant.{rest}

-- Sets of bits

none_of : (n w : ℕ) → at (replicate n false) w ≡ false
none_of zero w = refl
none_of (suc n) zero = refl
none_of (suc n) (suc w) = none_of n w

among-push : (vs : List ℕ) (v w : ℕ) → is_among (vs ++ v ∷ []) w ≡ (is_among vs w || (eqb v w || false))
among-push vs v w = list_any-append (λ u. eqb u w) vs (v ∷ [])

added : (bits : List Bool) (vs : List ℕ) (v w : ℕ) → v < length bits → at bits w ≡ is_among vs w → at (set bits v true) w ≡ is_among (vs ++ v ∷ []) w
added bits vs v w h e =
    elim (cases_eq w v) [
      | inl same ↦
          ap (λ u. get_or (set bits v true) u false) same ∙ (get_or-set_same bits v true false h
          ∙ sym (among-push vs v w ∙ or_right (is_among vs w) (eqb v w || false) (or_left (eqb v w) false (eq-eqb v w (sym same)))))
      | inr other ↦
          (let apart : (eqb v w || false) ≡ false = or_from (eqb v w) false (ne_eqb v w (λ e. other (sym e))) refl in
          get_or-set_other bits v w true false other ∙ (e ∙ sym (among-push vs v w ∙ (ap (λ b. is_among vs w || b) apart ∙ or-false (is_among vs w)))))
    ]

-- one bit more stands for one variable more
pub at-add : (bits : List Bool) (vs : List ℕ) (v : ℕ) → v < length bits → at bits ≡ is_among vs → at (set bits v true) ≡ is_among (vs ++ v ∷ [])
at-add bits vs v h e = fun_ext (λ w. added bits vs v w h (ap (λ (f : ℕ → Bool). f w) e))

removed : (bits : List Bool) (vs : List ℕ) (v w : ℕ) → v < length bits → is_among vs v ≡ false → at bits w ≡ is_among (vs ++ v ∷ []) w → at (set bits v false) w ≡ is_among vs w
removed bits vs v w h gone e =
    elim (cases_eq w v) [
      | inl same ↦
          ap (λ u. get_or (set bits v false) u false) same ∙ (get_or-set_same bits v false false h ∙ (sym gone ∙ ap (is_among vs) (sym same)))
      | inr other ↦
          (let apart : (eqb v w || false) ≡ false = or_from (eqb v w) false (ne_eqb v w (λ e. other (sym e))) refl in
          get_or-set_other bits v w false false other ∙ (e ∙ (among-push vs v w ∙ (ap (λ b. is_among vs w || b) apart ∙ or-false (is_among vs w)))))
    ]

-- one bit less stands for one variable less
pub at-remove : (bits : List Bool) (vs : List ℕ) (v : ℕ) → v < length bits → is_among vs v ≡ false → at bits ≡ is_among (vs ++ v ∷ []) → at (set bits v false) ≡ is_among vs
at-remove bits vs v h gone e = fun_ext (λ w. removed bits vs v w h gone (ap (λ (f : ℕ → Bool). f w) e))

-- no bit stands for no variable
pub at-none : (n : ℕ) → at (replicate n false) ≡ is_among []
at-none n = fun_ext (λ w. none_of n w)

-- Distinct numbers

pub distinct-push : (vs : List ℕ) (v : ℕ) → is_distinct vs ≡ true → is_among vs v ≡ false → is_distinct (vs ++ v ∷ []) ≡ true
distinct-push [] v d e = refl
distinct-push (w ∷ vs) v d e =
    let (apart, later) = and_parts (not (is_among vs w)) (is_distinct vs) d in
    let (ne, out) = or_parts (eqb w v) (is_among vs v) e in
    let other : eqb v w ≡ false = ne_eqb v w (λ s. both_ways (eqb w v) ne (eq-eqb w v (sym s))) in
    and_from (not (is_among (vs ++ v ∷ []) w)) (is_distinct (vs ++ v ∷ []))
    (not_from_false (is_among (vs ++ v ∷ []) w)
    (among-push vs v w ∙ or_from (is_among vs w) (eqb v w || false) (not-true (is_among vs w) apart) (or_from (eqb v w) false other refl)))
    (distinct-push vs v later out)

pub distinct-pop : (vs : List ℕ) (v : ℕ) → is_distinct (vs ++ v ∷ []) ≡ true → (is_distinct vs ≡ true) × (is_among vs v ≡ false)
distinct-pop [] v d = (refl, refl)
distinct-pop (w ∷ vs) v d =
    let (apart, later) = and_parts (not (is_among (vs ++ v ∷ []) w)) (is_distinct (vs ++ v ∷ [])) d in
    let (rest, out) = distinct-pop vs v later in
    let (none, ne) = or_parts (is_among vs w) (eqb v w || false) (sym (among-push vs v w) ∙ not-true (is_among (vs ++ v ∷ []) w) apart) in
    let (other, _) = or_parts (eqb v w) false ne in (
      and_from (not (is_among vs w)) (is_distinct vs) (not_from_false (is_among vs w) none) rest,
      or_from (eqb w v) (is_among vs v) (ne_eqb w v (λ s. both_ways (eqb v w) other (eq-eqb v w (sym s)))) out,
    )

pub all-pop : {X : Type 0} (P : X → Type 0) (xs : List X) (y : X) → AllByRecursion P (xs ++ y ∷ []) → AllByRecursion P xs × P y
all-pop P [] y h = (tt, h.0)
all-pop P (x ∷ xs) y h = let (rest, last) = all-pop P xs y h.1 in ((h.0, rest), last)

-- distinct numbers below n are n at most
none_equal : (v : ℕ) (vs : List ℕ) → is_among vs v ≡ false → AllByRecursion (λ w. eqb v w ≡ false) vs
none_equal v [] e = tt
none_equal v (w ∷ vs) e = let (ne, out) = or_parts (eqb w v) (is_among vs v) e in (ne_eqb v w (λ s. both_ways (eqb w v) ne (eq-eqb w v (sym s))), none_equal v vs out)

are_distinct : (vs : List ℕ) → is_distinct vs ≡ true → IsDistinct eqb vs
unfolding IsDistinct
are_distinct [] d = tt
are_distinct (v ∷ vs) d = let (apart, later) = and_parts (not (is_among vs v)) (is_distinct vs) d in (none_equal v vs (not-true (is_among vs v) apart), are_distinct vs later)

below-any : (n : ℕ) (vs : List ℕ) (q : ℕ) → AllByRecursion (λ v. v < n) vs → list_any (eqb q) vs ≡ true → q < n
below-any n [] q h e = absurd (let bad : false ≡ true = e in cc)
below-any n (v ∷ vs) q h e =
    elim (or_cases (eqb q v) (list_any (eqb q) vs) e) [
      | inl same ↦ (let is = eqb-true q v same in let less : v < n = h.0 in omega arith)
      | inr later ↦ below-any n vs q h.1 later
    ]

pub few_distinct : (n : ℕ) (vs : List ℕ) → is_distinct vs ≡ true → AllByRecursion (λ v. v < n) vs → length vs ≤ n
few_distinct n vs d h = length-le_from_distinct_below vs n (are_distinct vs d) (λ q e. below-any n vs q h e)
