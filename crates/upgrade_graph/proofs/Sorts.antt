-- A stable sort has one answer.
use Rattle.std.proofs.Common.{◌≡◌, ◌&&◌, ℕ, zero, suc, ◌<◌, ◌≤◌, Bool, true, false, not, if◌then◌else◌, List, [], ◌∷◌, length, get_or, map, refl, sym, ap, ◌∙◌, subst, arith, ◌+◌}
use Rattle.std.specs.Prelude.{filter}
use Rattle.std.specs.Cmp.{IsStrictWeakOrder}
use Rattle.std.specs.List.{All, AllByRecursion}
use Rattle.std.specs.List.Sorted.{IsPermutation, IsSortedBy, IsStableBy, ties}
use Rattle.std.proofs.lemmas.List.Elements.{recursion_from_All, All-from_get_or}
use Rattle.std.proofs.lemmas.List.Sorted.{sorted_far, IsPermutation-cons, IsPermutation-middle, IsPermutation-refl, IsPermutation-trans}
use Rattle.upgrade_graph.specs.Sorting.{put_in, sorted}

pub true_not_false : {A : Type 0} (b : Bool) → b ≡ true → b ≡ false → A
true_not_false b h k = absurd (let bad : true ≡ false = sym h ∙ k in cc)

false_of : (b : Bool) → (b ≡ true → false ≡ true) → b ≡ false
false_of false h = refl
false_of true h = sym (h refl)

both_not : (a b : Bool) → a ≡ false → b ≡ false → (not a && not b) ≡ true
both_not a b h k = rw (h, k)

not_both : (a b : Bool) → (not a && not b) ≡ true → (a ≡ false) × (b ≡ false)
not_both false false h = (refl, refl)
not_both false true h = absurd (let bad : false ≡ true = h in cc)
not_both true b h = absurd (let bad : false ≡ true = h in cc)

swapped : (a b : Bool) → (b && a) ≡ (a && b)
swapped false false = refl
swapped false true = refl
swapped true false = refl
swapped true true = refl

-- what holds of all items holds of each that a filter keeps
first_kept : {T : Type 0} (Q : T → Type 0) (keep : T → Bool) (items : List T) (first : T) (rest : List T)
    → filter keep items ≡ first ∷ rest → AllByRecursion Q items → Q first
first_kept Q keep [] first rest h all = absurd (let bad : [] ≡ first ∷ rest = h in cc)
first_kept {T} Q keep (item ∷ items) first rest h all =
    let go : (b : Bool) → (if b then item ∷ filter keep items else filter keep items) ≡ first ∷ rest → Q first =
    λ b. elim b as (λ b. (if b then item ∷ filter keep items else filter keep items) ≡ first ∷ rest → Q first) [
      | true ↦ λ e. let same : item ≡ first = cc in subst Q same all.0
      | false ↦ λ e. first_kept Q keep items first rest e all.1
    ] in
    go (keep item) h

-- no item comes before an earlier one
pub Ordered : {T : Type 0} → (T → T → Bool) → List T → Type 0
Ordered lt [] = Unit {0}
Ordered lt (x ∷ xs) = AllByRecursion (λ y. lt y x ≡ false) xs × Ordered lt xs

module _ {T : Type 0} (lt : T → T → Bool) (o : IsStrictWeakOrder lt) where
  itself : (x : T) → lt x x ≡ false
  itself x = false_of (lt x x) (λ h. sym (o.one_way x x h) ∙ h)

  tied_itself : (x : T) → ties lt x x ≡ true
  tied_itself x = both_not (lt x x) (lt x x) (itself x) (itself x)

  ordered_at : (x : T) (xs : List T) → ((i j : ℕ) (d : T) → i ≤ j → j < length (x ∷ xs) → lt (get_or (x ∷ xs) j d) (get_or (x ∷ xs) i d) ≡ false) → AllByRecursion (λ y. lt y x ≡ false) xs
  ordered_at x xs far = recursion_from_All (λ y. lt y x ≡ false) xs (All-from_get_or (λ y. lt y x ≡ false) xs x (λ i h. far 0 (suc i) x (omega arith) (omega arith)))

  ordered_far : (xs : List T) → ((i j : ℕ) (d : T) → i ≤ j → j < length xs → lt (get_or xs j d) (get_or xs i d) ≡ false) → Ordered lt xs
  unfolding Ordered
  ordered_far [] far = tt
  ordered_far (x ∷ xs) far = (ordered_at x xs far, ordered_far xs (λ i j d h k. far (suc i) (suc j) d (omega arith) (omega arith)))

  pub ordered : (xs : List T) → IsSortedBy lt xs → Ordered lt xs
  ordered xs up = ordered_far xs (sorted_far lt o xs up)

  turned : (x y : T) → ties lt y x ≡ ties lt x y
  turned x y = swapped (not (lt x y)) (not (lt y x))

  -- of two ordered lists with the same ties the first items tie
  firsts_tie : (x y : T) (xs ys : List T) → Ordered lt (x ∷ xs) → Ordered lt (y ∷ ys)
      → ((z : T) → filter (ties lt z) (x ∷ xs) ≡ filter (ties lt z) (y ∷ ys)) → (b : Bool) → ties lt x y ≡ b → ties lt y x ≡ b → ties lt x y ≡ true
  unfolding Ordered
  firsts_tie x y xs ys up uq same true h k = h
  firsts_tie x y xs ys up uq same false h k =
      let kept : filter (ties lt x) (x ∷ xs) ≡ x ∷ filter (ties lt x) xs = rw tied_itself refl in
      let same_x : filter (ties lt x) (y ∷ ys) ≡ filter (ties lt x) (x ∷ xs) = sym (same x) in
      let there : filter (ties lt x) ys ≡ x ∷ filter (ties lt x) xs = (rw h at same_x) ∙ kept in
      let below : lt x y ≡ false = first_kept (λ w. lt w y ≡ false) (ties lt x) ys x (filter (ties lt x) xs) there uq.0 in
      let kept' : filter (ties lt y) (y ∷ ys) ≡ y ∷ filter (ties lt y) ys = rw tied_itself refl in
      let same_y : filter (ties lt y) (x ∷ xs) ≡ filter (ties lt y) (y ∷ ys) = same y in
      let here : filter (ties lt y) xs ≡ y ∷ filter (ties lt y) ys = (rw k at same_y) ∙ kept' in
      let above : lt y x ≡ false = first_kept (λ w. lt w x ≡ false) (ties lt y) xs y (filter (ties lt y) ys) here up.0 in
      both_not (lt x y) (lt y x) below above

  -- what a step of `stable_once` takes off both lists
  rests : (x y : T) (xs ys : List T) → ties lt x y ≡ true → ((z : T) → filter (ties lt z) (x ∷ xs) ≡ filter (ties lt z) (y ∷ ys))
      → (x ≡ y) × (filter (ties lt x) xs ≡ filter (ties lt x) ys)
  rests x y xs ys h same =
      let kept : filter (ties lt x) (x ∷ xs) ≡ x ∷ filter (ties lt x) xs = rw tied_itself refl in
      let there : filter (ties lt x) (y ∷ ys) ≡ y ∷ filter (ties lt x) ys = rw h refl in
      let both : x ∷ filter (ties lt x) xs ≡ y ∷ filter (ties lt x) ys = sym kept ∙ same x ∙ there in
      (cc, cc)

  rest_same : (x : T) (xs ys : List T) (z : T) → filter (ties lt z) (x ∷ xs) ≡ filter (ties lt z) (x ∷ ys) → (b : Bool) → ties lt z x ≡ b → filter (ties lt z) xs ≡ filter (ties lt z) ys
  rest_same x xs ys z same true h =
      let both : x ∷ filter (ties lt z) xs ≡ x ∷ filter (ties lt z) ys = rw h at same in
      cc
  rest_same x xs ys z same false h = rw h at same

  -- an order and the order of what ties settle a list
  pub stable_once : (xs ys : List T) → Ordered lt xs → Ordered lt ys → ((z : T) → filter (ties lt z) xs ≡ filter (ties lt z) ys) → xs ≡ ys
  unfolding Ordered
  stable_once [] [] up uq same = refl
  stable_once [] (y ∷ ys) up uq same =
      let kept : filter (ties lt y) (y ∷ ys) ≡ y ∷ filter (ties lt y) ys = rw tied_itself refl in
      let bad : [] ≡ y ∷ filter (ties lt y) ys = same y ∙ kept in
      absurd cc
  stable_once (x ∷ xs) [] up uq same =
      let kept : filter (ties lt x) (x ∷ xs) ≡ x ∷ filter (ties lt x) xs = rw tied_itself refl in
      let bad : [] ≡ x ∷ filter (ties lt x) xs = sym (same x) ∙ kept in
      absurd cc
  stable_once (x ∷ xs) (y ∷ ys) up uq same =
      let tie : ties lt x y ≡ true = firsts_tie x y xs ys up uq same (ties lt x y) refl (turned x y) in
      let first : x ≡ y = (rests x y xs ys tie same).0 in
      let same' : (z : T) → filter (ties lt z) (x ∷ xs) ≡ filter (ties lt z) (x ∷ ys) = rw (sym first) at same in
      let others = stable_once xs ys up.1 uq.1 (λ z. rest_same x xs ys z (same' z) (ties lt z x) refl) in
      rw (first, others) refl

  -- the sorted list is ordered
  above_put : (low x : T) (xs : List T) → lt x low ≡ false → AllByRecursion (λ y. lt y low ≡ false) xs → AllByRecursion (λ y. lt y low ≡ false) (put_in lt x xs)
  above_put low x [] h all = (h, tt)
  above_put low x (y ∷ ys) h all =
      let go : (b : Bool) → AllByRecursion (λ y. lt y low ≡ false) (if b then y ∷ put_in lt x ys else x ∷ y ∷ ys) =
      λ b. elim b as (λ b. AllByRecursion (λ y. lt y low ≡ false) (if b then y ∷ put_in lt x ys else x ∷ y ∷ ys)) [
        | true ↦ (all.0, above_put low x ys h all.1)
        | false ↦ (h, all)
      ] in
      go (lt y x)

  above_all : (x y : T) (ys : List T) → lt y x ≡ false → AllByRecursion (λ w. lt w y ≡ false) ys → AllByRecursion (λ w. lt w x ≡ false) ys
  above_all x y [] h all = tt
  above_all x y (w ∷ ws) h all = (o.chain w y x all.0 h, above_all x y ws h all.1)

  put_ordered : (x : T) (xs : List T) → Ordered lt xs → Ordered lt (put_in lt x xs)
  unfolding Ordered
  put_ordered x [] up = (tt, tt)
  put_ordered x (y ∷ ys) up =
      let go : (b : Bool) → lt y x ≡ b → Ordered lt (if b then y ∷ put_in lt x ys else x ∷ y ∷ ys) =
      λ b. elim b as (λ b. lt y x ≡ b → Ordered lt (if b then y ∷ put_in lt x ys else x ∷ y ∷ ys)) [
        | true ↦ λ h. (above_put y x ys (o.one_way y x h) up.0, put_ordered x ys up.1)
        | false ↦ λ h. ((h, above_all x y ys h up.0), up)
      ] in
      go (lt y x) refl

  sorted_ordered : (xs : List T) → Ordered lt (sorted lt xs)
  unfolding Ordered
  sorted_ordered [] = tt
  sorted_ordered (x ∷ xs) = put_ordered x (sorted lt xs) (sorted_ordered xs)

  by_places : (xs : List T) → Ordered lt xs → (k : ℕ) (d : T) → k + 1 < length xs → lt (get_or xs (k + 1) d) (get_or xs k d) ≡ false
  unfolding Ordered
  by_places [] up k d below = absurd (omega (arith, below))
  by_places (x ∷ []) up k d below = absurd (omega (arith, below))
  by_places (x ∷ y ∷ ys) up zero d below = up.0.0
  by_places (x ∷ y ∷ ys) up (suc k) d below =
      let next : suc k + 1 ≡ suc (k + 1) = omega arith in
      let rest = by_places (y ∷ ys) up.1 k d (omega (arith, below)) in
      subst (λ (n : ℕ). lt (get_or (x ∷ y ∷ ys) n d) (get_or (y ∷ ys) k d) ≡ false) (sym next) rest

  pub sorted_up : (xs : List T) → IsSortedBy lt (sorted lt xs)
  sorted_up xs k d low below = by_places (sorted lt xs) (sorted_ordered xs) k d below

  -- the sorted list keeps what ties as it stands
  apart : (z x y : T) → lt y x ≡ true → ties lt z y ≡ true → ties lt z x ≡ false
  apart z x y h k =
      let one = not_both (lt z y) (lt y z) k in
      false_of (ties lt z x) (λ e.
      let two = not_both (lt z x) (lt x z) e in
      sym (o.chain y z x one.1 two.0) ∙ h)

  put_over : (z x y : T) (ys zs : List T) → lt y x ≡ true → filter (ties lt z) zs ≡ filter (ties lt z) (x ∷ ys) → (b : Bool) → ties lt z y ≡ b
      → filter (ties lt z) (y ∷ zs) ≡ filter (ties lt z) (x ∷ y ∷ ys)
  put_over z x y ys zs h same true k =
      let off : ties lt z x ≡ false = apart z x y h k in
      let same' : filter (ties lt z) zs ≡ filter (ties lt z) ys = rw off at same in
      rw (k, off) (ap (λ more. y ∷ more) same')
  put_over z x y ys zs h same false k = rw k same

  put_stable : (z x : T) (xs : List T) → filter (ties lt z) (put_in lt x xs) ≡ filter (ties lt z) (x ∷ xs)
  put_stable z x [] = refl
  put_stable z x (y ∷ ys) =
      let go : (b : Bool) → lt y x ≡ b → filter (ties lt z) (if b then y ∷ put_in lt x ys else x ∷ y ∷ ys) ≡ filter (ties lt z) (x ∷ y ∷ ys) =
      λ b. elim b as (λ b. lt y x ≡ b → filter (ties lt z) (if b then y ∷ put_in lt x ys else x ∷ y ∷ ys) ≡ filter (ties lt z) (x ∷ y ∷ ys)) [
        | true ↦ λ h. put_over z x y ys (put_in lt x ys) h (put_stable z x ys) (ties lt z y) refl
        | false ↦ λ h. refl
      ] in
      go (lt y x) refl

  more_stable : (z x : T) (xs ys : List T) → filter (ties lt z) xs ≡ filter (ties lt z) ys → filter (ties lt z) (x ∷ xs) ≡ filter (ties lt z) (x ∷ ys)
  more_stable z x xs ys h = ap (λ more. if ties lt z x then x ∷ more else more) h

  sorted_stable : (z : T) (xs : List T) → filter (ties lt z) (sorted lt xs) ≡ filter (ties lt z) xs
  sorted_stable z [] = refl
  sorted_stable z (x ∷ xs) = put_stable z x (sorted lt xs) ∙ more_stable z x (sorted lt xs) xs (sorted_stable z xs)

  -- what a stable sort gives
  pub sorted_is : (xs ys : List T) → IsSortedBy lt ys → IsStableBy lt xs ys → ys ≡ sorted lt xs
  sorted_is xs ys up stable =
      stable_once ys (sorted lt xs) (ordered ys up) (sorted_ordered xs) (λ z. stable z ∙ sym (sorted_stable z xs))

-- the sorted list has the same items
put_permutes : {T : Type 0} (lt : T → T → Bool) (x : T) (xs : List T) → IsPermutation (x ∷ xs) (put_in lt x xs)
put_permutes lt x [] = IsPermutation-refl (x ∷ [])
put_permutes lt x (y ∷ ys) =
    let go : (b : Bool) → IsPermutation (x ∷ y ∷ ys) (if b then y ∷ put_in lt x ys else x ∷ y ∷ ys) =
    λ b. elim b as (λ b. IsPermutation (x ∷ y ∷ ys) (if b then y ∷ put_in lt x ys else x ∷ y ∷ ys)) [
      | true ↦ IsPermutation-trans _ _ _ (IsPermutation-middle (x ∷ []) y ys) (IsPermutation-cons y (x ∷ ys) (put_in lt x ys) (put_permutes lt x ys))
      | false ↦ IsPermutation-refl (x ∷ y ∷ ys)
    ] in
    go (lt y x)

pub sorted_permutes : {T : Type 0} (lt : T → T → Bool) (xs : List T) → IsPermutation xs (sorted lt xs)
sorted_permutes lt [] = IsPermutation-refl []
sorted_permutes lt (x ∷ xs) = IsPermutation-trans _ _ _ (IsPermutation-cons x xs (sorted lt xs) (sorted_permutes lt xs)) (put_permutes lt x (sorted lt xs))

-- a sort by what each item stands for
module _ {R T : Type 0} (before : R → R → Bool) (lt : T → T → Bool) (stands : R → T) (Good : R → Type 0)
    (agree : (a b : R) → Good a → Good b → before a b ≡ lt (stands a) (stands b)) where
  put_good : (x : R) (xs : List R) → Good x → AllByRecursion Good xs → AllByRecursion Good (put_in before x xs)
  put_good x [] h all = (h, tt)
  put_good x (y ∷ ys) h all =
      let go : (b : Bool) → AllByRecursion Good (if b then y ∷ put_in before x ys else x ∷ y ∷ ys) =
      λ b. elim b as (λ b. AllByRecursion Good (if b then y ∷ put_in before x ys else x ∷ y ∷ ys)) [
        | true ↦ (all.0, put_good x ys h all.1)
        | false ↦ (h, all)
      ] in
      go (before y x)

  sorted_good : (xs : List R) → AllByRecursion Good xs → AllByRecursion Good (sorted before xs)
  sorted_good [] all = tt
  sorted_good (x ∷ xs) all = put_good x (sorted before xs) all.0 (sorted_good xs all.1)

  put_stands : (x : R) (xs : List R) → Good x → AllByRecursion Good xs → map stands (put_in before x xs) ≡ put_in lt (stands x) (map stands xs)
  put_stands x [] h all = refl
  put_stands x (y ∷ ys) h all =
      let go : (b : Bool) → map stands (if b then y ∷ put_in before x ys else x ∷ y ∷ ys) ≡ (if b then stands y ∷ put_in lt (stands x) (map stands ys) else stands x ∷ stands y ∷ map stands ys) =
      λ b. elim b as (λ b. map stands (if b then y ∷ put_in before x ys else x ∷ y ∷ ys) ≡ (if b then stands y ∷ put_in lt (stands x) (map stands ys) else stands x ∷ stands y ∷ map stands ys)) [
        | true ↦ ap (λ more. stands y ∷ more) (put_stands x ys h all.1)
        | false ↦ refl
      ] in
      go (before y x)
      ∙ ap (λ b. if b then stands y ∷ put_in lt (stands x) (map stands ys) else stands x ∷ stands y ∷ map stands ys) (agree y x all.0 h)

  by_recursion : (xs : List R) → AllByRecursion Good xs → map stands (sorted before xs) ≡ sorted lt (map stands xs)
  by_recursion [] all = refl
  by_recursion (x ∷ xs) all =
      put_stands x (sorted before xs) all.0 (sorted_good xs all.1) ∙ ap (put_in lt (stands x)) (by_recursion xs all.1)

  pub sorted_stands : (xs : List R) → All Good xs → map stands (sorted before xs) ≡ sorted lt (map stands xs)
  sorted_stands xs all = by_recursion xs (recursion_from_All Good xs all)
