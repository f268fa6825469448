-- Lists from a place on.
use Rattle.std.proofs.Common.{◌≡◌, ◌+◌, ◌-◌, ◌<◌, arith, append_assoc, ℕ, suc, Bool, true, List, [], ◌∷◌, ◌++◌, length, get_or, map, take, drop, refl, sym, ap, ◌∙◌, drop-cons, add-one, Some, slice_get}
use Rattle.std.specs.List.{find, flat_map, range_with_len}
use Rattle.std.proofs.lemmas.List.{get_or-map, length-map}
use Rattle.std.proofs.lemmas.Option.{slice_get_read}
use Rattle.op_properties.proofs.Firsts.{take_one_more}

pub drop_at : {T : Type 0} (xs : List T) (i : ℕ) (x : T) → i < length xs → x ≡ get_or xs i x → drop i xs ≡ x ∷ drop (i + 1) xs
drop_at xs i x below at = rw add-one (drop-cons xs i x below ∙ ap (λ y. y ∷ drop (suc i) xs) (sym at))

pub find_at : {T : Type 0} (test : T → Bool) (xs : List T) (i : ℕ) (x : T) → i < length xs → x ≡ get_or xs i x
    → find test (drop i xs) ≡ find test xs → test x ≡ true → slice_get xs i ≡ find test xs
find_at test xs i x below at so h =
    let here : find test (x ∷ drop (i + 1) xs) ≡ Some x = rw h refl in
    slice_get_read xs (length xs) i x refl below at ∙ sym here ∙ ap (find test) (sym (drop_at xs i x below at)) ∙ so

-- a list seen through a function
module _ {A T : Type 0} (see : A → T) (xs : List A) (i : ℕ) (x : A) (below : i < length xs) (at : x ≡ get_or xs i x) where
  seen_below : i < length (map see xs)
  seen_below = rw length-map below

  seen_at : see x ≡ get_or (map see xs) i (see x)
  seen_at = ap see at ∙ sym (get_or-map see xs i x (see x) below)

  pub seen_drop : drop i (map see xs) ≡ see x ∷ drop (i + 1) (map see xs)
  seen_drop = drop_at (map see xs) i (see x) seen_below seen_at

  pub seen_take : take (i + 1) (map see xs) ≡ take i (map see xs) ++ see x ∷ []
  seen_take = take_one_more (map see xs) i (see x) seen_below seen_at

pub flat_map_seen : {A B C : Type 0} (see : A → B) (f : B → List C) (xs : List A) → flat_map (λ x. f (see x)) xs ≡ flat_map f (map see xs)
flat_map_seen see f [] = refl
flat_map_seen see f (x ∷ xs) = ap (λ l. f (see x) ++ l) (flat_map_seen see f xs)

-- five lists, each put behind the ones before
pub five : {T : Type 0} (r0 r1 r2 r3 r4 r5 a b c d e : List T) → r0 ≡ [] → r1 ≡ r0 ++ a → r2 ≡ r1 ++ b → r3 ≡ r2 ++ c → r4 ≡ r3 ++ d → r5 ≡ r4 ++ e
    → r5 ≡ a ++ (b ++ (c ++ (d ++ e)))
five r0 r1 r2 r3 r4 r5 a b c d e h0 h1 h2 h3 h4 h5 =
    let one : r1 ≡ a = h1 ∙ ap (λ r. r ++ a) h0 in
    let all : r5 ≡ a ++ b ++ c ++ d ++ e =
    h5 ∙ ap (λ r. r ++ e) (h4 ∙ ap (λ r. r ++ d) (h3 ∙ ap (λ r. r ++ c) (h2 ∙ ap (λ r. r ++ b) one))) in
    all ∙ simp append_assoc

pub range_step : (p n : ℕ) → p < n → range_with_len p (n - p) ≡ p ∷ range_with_len (p + 1) (n - (p + 1))
range_step p n h =
    let one : n - p ≡ suc (n - (p + 1)) = omega arith in
    ap (range_with_len p) one
