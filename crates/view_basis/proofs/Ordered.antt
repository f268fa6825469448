-- Lists of which each item is so related to all that stand behind it.
use Rattle.std.proofs.Common.{◌≡◌, Bool, true, false, cond, List, [], ◌∷◌, Option, Some, None, map, refl}
use Rattle.std.specs.Cmp.{IsTotalOrder}
use Rattle.std.specs.List.{AllByRecursion, cons_option, filter_map}
use Rattle.std.specs.List.Sorted.{IsStrictlySortedBy}
use Rattle.std.specs.Map.{keys_of}
use Rattle.std.specs.Ordering.{is_lt, ordering_reverse}
use Rattle.std.specs.declared.cmp.Ordering.{Ordering}
use Rattle.std.specs.declared.cmp.Ordering.TheVariants.{Equal, Less, Greater}
use Rattle.upgrade_graph.specs.Sorting.{put_in, sorted}

pub AllPairsAre : {X : Type 0} → (X → X → Type 0) → List X → Type 0
AllPairsAre R [] = Unit {0}
AllPairsAre R (x ∷ xs) = AllByRecursion (R x) xs × AllPairsAre R xs

-- What is picked of a list that is in the strict order of its keys is related as the keys say.
module _ {K V X : Type 0} (cmp : K → K → Ordering) (pick : K × V → Option X) (R : X → X → Type 0)
    (related : (d e : K × V) (x y : X) → pick d ≡ Some x → pick e ≡ Some y → cmp d.0 e.0 ≡ Less → R x y) where
  behind : (d : K × V) (x : X) → pick d ≡ Some x → (es : List (K × V))
      → AllByRecursion (λ k. cmp d.0 k ≡ Less) (keys_of es) → AllByRecursion (R x) (filter_map pick es)
  behind d x is [] all = tt
  behind d x is (e ∷ es) all =
      let go : (o : Option X) → pick e ≡ o → AllByRecursion (R x) (cons_option o (filter_map pick es)) =
      λ o. elim o as (λ o. pick e ≡ o → AllByRecursion (R x) (cons_option o (filter_map pick es))) [
        | None ↦ λ h. behind d x is es all.1
        | Some y ↦ λ h. (related d e x y is h all.0, behind d x is es all.1)
      ] in
      go (pick e) refl

  pub picked : (es : List (K × V)) → IsStrictlySortedBy cmp (keys_of es) → AllPairsAre R (filter_map pick es)
  unfolding AllPairsAre IsStrictlySortedBy
  picked [] up = tt
  picked (e ∷ es) up =
      let go : (o : Option X) → pick e ≡ o → AllPairsAre R (cons_option o (filter_map pick es)) =
      λ o. elim o as (λ o. pick e ≡ o → AllPairsAre R (cons_option o (filter_map pick es))) [
        | None ↦ λ h. picked es up.1
        | Some x ↦ λ h. (behind e x h es up.0, picked es up.1)
      ] in
      go (pick e) refl

-- items in an order of what they show
module _ {X K : Type 0} (cmp : K → K → Ordering) (see : X → K) where
  shown_behind : (k : K) (xs : List X) → AllByRecursion (λ x. cmp k (see x) ≡ Less) xs → AllByRecursion (λ y. cmp k y ≡ Less) (map see xs)
  shown_behind k [] all = tt
  shown_behind k (x ∷ xs) all = (all.0, shown_behind k xs all.1)

  pub shown_in_order : (xs : List X) → AllPairsAre (λ x y. cmp (see x) (see y) ≡ Less) xs → IsStrictlySortedBy cmp (map see xs)
  unfolding AllPairsAre IsStrictlySortedBy
  shown_in_order [] up = tt
  shown_in_order (x ∷ xs) up = (shown_behind (see x) xs up.0, shown_in_order xs up.1)

-- Sorting items of which no two tie.
module _ {X : Type 0} (cmp : X → X → Ordering) (o : IsTotalOrder cmp) where
  abbrev lt : X → X → Bool
  lt x y = is_lt (cmp x y)

  put_all : (P : X → Type 0) (x : X) (xs : List X) → P x → AllByRecursion P xs → AllByRecursion P (put_in lt x xs)
  put_all P x [] h all = (h, tt)
  put_all P x (y ∷ ys) h all =
      let go : (b : Bool) → AllByRecursion P (cond b (y ∷ put_in lt x ys) (x ∷ y ∷ ys)) =
      λ b. elim b as (λ b. AllByRecursion P (cond b (y ∷ put_in lt x ys) (x ∷ y ∷ ys))) [
        | true ↦ (all.0, put_all P x ys h all.1)
        | false ↦ (h, all)
      ] in
      go (lt y x)

  sorted_all : (P : X → Type 0) (xs : List X) → AllByRecursion P xs → AllByRecursion P (sorted lt xs)
  sorted_all P [] all = tt
  sorted_all P (x ∷ xs) all = put_all P x (sorted lt xs) all.0 (sorted_all P xs all.1)

  below_all : (x y : X) (ys : List X) → cmp x y ≡ Less → AllByRecursion (λ w. cmp y w ≡ Less) ys → AllByRecursion (λ w. cmp x w ≡ Less) ys
  below_all x y [] h all = tt
  below_all x y (w ∷ ws) h all = (o.trans x y w h all.0, below_all x y ws h all.1)

  Less_from_is_lt : (r : Ordering) → is_lt r ≡ true → r ≡ Less
  Less_from_is_lt Less h = refl
  Less_from_is_lt Equal h = cc
  Less_from_is_lt Greater h = cc

  turned : (r s : Ordering) → r ≡ ordering_reverse s → (r ≡ Equal → ⊥) → is_lt s ≡ false → r ≡ Less
  turned r Less is apart h = absurd (let bad : true ≡ false = h in cc)
  turned r Equal is apart h = absurd (apart is)
  turned r Greater is apart h = is

  put_in_order : (x : X) (xs : List X) → AllByRecursion (λ y. cmp x y ≡ Equal → ⊥) xs → AllPairsAre (λ y z. cmp y z ≡ Less) xs
      → AllPairsAre (λ y z. cmp y z ≡ Less) (put_in lt x xs)
  unfolding AllPairsAre
  put_in_order x [] apart up = (tt, tt)
  put_in_order x (y ∷ ys) apart up =
      let go : (b : Bool) → lt y x ≡ b → AllPairsAre (λ y z. cmp y z ≡ Less) (cond b (y ∷ put_in lt x ys) (x ∷ y ∷ ys)) =
      λ b. elim b as (λ b. lt y x ≡ b → AllPairsAre (λ y z. cmp y z ≡ Less) (cond b (y ∷ put_in lt x ys) (x ∷ y ∷ ys))) [
        | true ↦ λ h. (put_all (λ w. cmp y w ≡ Less) x ys (Less_from_is_lt (cmp y x) h) up.0, put_in_order x ys apart.1 up.1)
        | false ↦ λ h.
            (let less = turned (cmp x y) (cmp y x) (o.antisymm x y) apart.0 h in
            ((less, below_all x y ys less up.0), up))
      ] in
      go (lt y x) refl

  pub sorted_in_order : (xs : List X) → AllPairsAre (λ x y. cmp x y ≡ Equal → ⊥) xs → AllPairsAre (λ x y. cmp x y ≡ Less) (sorted lt xs)
  unfolding AllPairsAre
  sorted_in_order [] apart = tt
  sorted_in_order (x ∷ xs) apart =
      put_in_order x (sorted lt xs) (sorted_all (λ y. cmp x y ≡ Equal → ⊥) xs apart.0) (sorted_in_order xs apart.1)
