-- The first item of what is picked from a list.
use Rattle.std.proofs.Common.{◌≡◌, ◌+◌, ◌<◌, ℕ, Bool, true, false, cond, List, [], ◌∷◌, ◌++◌, Option, Some, None, drop, get_or, length, map, refl, sym, ap, ◌∙◌}
use Rattle.std.specs.List.{cons_option, filter, filter_map, flat_map, slice_get}
use Rattle.std.specs.Option.{option_and_then, option_or}
use Rattle.std.proofs.lemmas.List.{drop_more}

-- ---- a loop over the items, with none picked so far
module _ {X Y : Type 0} (pick : X → Option Y) (xs : List X) (i : ℕ) (x : X) (below : i < length xs) (is : x ≡ get_or xs i x) where
  here : slice_get (filter_map pick (drop i xs)) 0 ≡ slice_get (cons_option (pick x) (filter_map pick (drop (i + 1) xs))) 0
  here = ap (λ l. slice_get (filter_map pick l) 0) (drop_more xs i x below ∙ ap (λ y. y ∷ drop (i + 1) xs) (sym is))

  pub passed : pick x ≡ None → slice_get (filter_map pick (drop (i + 1) xs)) 0 ≡ slice_get (filter_map pick (drop i xs)) 0
  passed h = sym (here ∙ ap (λ o. slice_get (cons_option o (filter_map pick (drop (i + 1) xs))) 0) h)

  pub found : (y : Y) → pick x ≡ Some y → slice_get (filter_map pick (drop i xs)) 0 ≡ Some y
  found y h = here ∙ ap (λ o. slice_get (cons_option o (filter_map pick (drop (i + 1) xs))) 0) h

-- ---- one pick in place of two steps

picked_again : {Y Z : Type 0} (f : Y → Option Z) (o : Option Y) (ys : List Y) (zs : List Z) → filter_map f ys ≡ zs
    → filter_map f (cons_option o ys) ≡ cons_option (option_and_then f o) zs
picked_again f None ys zs h = h
picked_again f (Some y) ys zs h = ap (cons_option (f y)) h

pub pick_of_picked : {X Y Z : Type 0} (f : Y → Option Z) (g : X → Option Y) (xs : List X)
    → filter_map f (filter_map g xs) ≡ filter_map (λ x. option_and_then f (g x)) xs
pick_of_picked f g [] = refl
pick_of_picked f g (x ∷ xs) =
    picked_again f (g x) (filter_map g xs) (filter_map (λ x. option_and_then f (g x)) xs) (pick_of_picked f g xs)

kept_again : {X Y : Type 0} (f : X → Option Y) (b : Bool) (x : X) (xs : List X) (ys : List Y) → filter_map f xs ≡ ys
    → filter_map f (cond b (x ∷ xs) xs) ≡ cons_option (cond b (f x) None) ys
kept_again f true x xs ys h = ap (cons_option (f x)) h
kept_again f false x xs ys h = h

pub pick_of_kept : {X Y : Type 0} (f : X → Option Y) (p : X → Bool) (xs : List X)
    → filter_map f (filter p xs) ≡ filter_map (λ x. cond (p x) (f x) None) xs
pick_of_kept f p [] = refl
pick_of_kept f p (x ∷ xs) =
    kept_again f (p x) x (filter p xs) (filter_map (λ x. cond (p x) (f x) None) xs) (pick_of_kept f p xs)

mapped_again : {X Y : Type 0} (f : X → Y) (b : Bool) (x : X) (xs : List X) (ys : List Y) → map f xs ≡ ys
    → map f (cond b (x ∷ xs) xs) ≡ cons_option (cond b (Some (f x)) None) ys
mapped_again f true x xs ys h = ap (λ l. f x ∷ l) h
mapped_again f false x xs ys h = h

pub map_of_kept : {X Y : Type 0} (f : X → Y) (p : X → Bool) (xs : List X)
    → map f (filter p xs) ≡ filter_map (λ x. cond (p x) (Some (f x)) None) xs
map_of_kept f p [] = refl
map_of_kept f p (x ∷ xs) =
    mapped_again f (p x) x (filter p xs) (filter_map (λ x. cond (p x) (Some (f x)) None) xs) (map_of_kept f p xs)

-- ---- the first of lists that stand one behind the other

pub first_append : {X : Type 0} (xs ys : List X) → slice_get (xs ++ ys) 0 ≡ option_or (slice_get xs 0) (slice_get ys 0)
first_append [] ys = refl
first_append (x ∷ xs) ys = refl

first_cons : {X : Type 0} (o : Option X) (xs : List X) → option_or o (slice_get xs 0) ≡ slice_get (cons_option o xs) 0
first_cons None xs = refl
first_cons (Some x) xs = refl

pub first_of_each : {X Y : Type 0} (f : X → List Y) (xs : List X)
    → slice_get (flat_map f xs) 0 ≡ slice_get (filter_map (λ x. slice_get (f x) 0) xs) 0
first_of_each f [] = refl
first_of_each f (x ∷ xs) =
    first_append (f x) (flat_map f xs)
    ∙ ap (option_or (slice_get (f x) 0)) (first_of_each f xs)
    ∙ first_cons (slice_get (f x) 0) (filter_map (λ x. slice_get (f x) 0) xs)
