-- Members of lists, and tests of them.
use Rattle.std.proofs.Common.{◌≡◌, ◌⊎◌, Bool, true, false, cond, ◌||◌, List, [], ◌∷◌, ◌++◌, ℕ, zero, suc, Option, Some, None, map, refl, sym, ap, ◌∙◌, inl, inr}
use Rattle.std.specs.List.{slice_get, filter, find, list_any}

-- the item is one of the list's
abbrev pub In : {X : Type 0} → List X → X → Type 0
In [] x = ⊥
In (y ∷ ys) x = (x ≡ y) ⊎ In ys x

pub get_in : {X : Type 0} (xs : List X) (i : ℕ) (x : X) → slice_get xs i ≡ Some x → In xs x
get_in [] i x h = absurd (let bad : None ≡ Some x = h in cc)
get_in (y ∷ ys) zero x h = inl (ap (λ o. elim o [ None ↦ x | Some z ↦ z ]) (sym h))
get_in (y ∷ ys) (suc i) x h = inr (get_in ys i x h)

pub in_get : {X : Type 0} (xs : List X) (x : X) → In xs x → (i : ℕ) × (slice_get xs i ≡ Some x)
in_get [] x among = absurd among
in_get (y ∷ ys) x (inl e) = (zero, ap Some (sym e))
in_get (y ∷ ys) x (inr r) = let (i, h) = in_get ys x r in (suc i, h)

pub in_append : {X : Type 0} (xs ys : List X) (x : X) → In (xs ++ ys) x → In xs x ⊎ In ys x
in_append [] ys x h = inr h
in_append (z ∷ xs) ys x (inl e) = inl (inl e)
in_append (z ∷ xs) ys x (inr h) = elim (in_append xs ys x h) [ inl a ↦ inl (inr a) | inr b ↦ inr b ]

in_filter_by : {X : Type 0} (b : Bool) (y : X) (ys : List X) (x : X) → In (cond b (y ∷ ys) ys) x → (x ≡ y) ⊎ In ys x
in_filter_by true y ys x h = h
in_filter_by false y ys x h = inr h

pub in_filter : {X : Type 0} (p : X → Bool) (xs : List X) (x : X) → In (filter p xs) x → In xs x
in_filter p [] x h = h
in_filter p (y ∷ ys) x h =
    elim (in_filter_by (p y) y (filter p ys) x h) [ inl e ↦ inl e | inr r ↦ inr (in_filter p ys x r) ]

found_by : {X : Type 0} (b : Bool) (y : X) (rest : Option X) → cond b (Some y) rest ≡ None → (b ≡ false) × (rest ≡ None)
found_by true y rest h = absurd (let bad : Some y ≡ None = h in cc)
found_by false y rest h = (refl, h)

-- where none is found each fails
pub find_none : {X : Type 0} (p : X → Bool) (xs : List X) → find p xs ≡ None → (x : X) → In xs x → p x ≡ false
find_none p [] h x among = absurd among
find_none p (y ∷ ys) h x (inl e) = ap p e ∙ (found_by (p y) y (find p ys) h).0
find_none p (y ∷ ys) h x (inr r) = find_none p ys (found_by (p y) y (find p ys) h).1 x r

pub any_ext : {X : Type 0} (p q : X → Bool) → ((x : X) → p x ≡ q x) → (xs : List X) → list_any p xs ≡ list_any q xs
any_ext p q same [] = refl
any_ext p q same (x ∷ xs) = λ i. same x i || any_ext p q same xs i

any_none : {X : Type 0} (xs : List X) → list_any (λ x. false) xs ≡ false
any_none [] = refl
any_none (x ∷ xs) = any_none xs

or_shuffle : (a b c d : Bool) → ((a || b) || (c || d)) ≡ ((a || c) || (b || d))
or_shuffle true b c d = refl
or_shuffle false true true d = refl
or_shuffle false true false d = refl
or_shuffle false false true d = refl
or_shuffle false false false d = refl

any_or : {X : Type 0} (p q : X → Bool) (xs : List X) → list_any (λ x. p x || q x) xs ≡ (list_any p xs || list_any q xs)
any_or p q [] = refl
any_or p q (x ∷ xs) =
    (λ i. (p x || q x) || any_or p q xs i) ∙ or_shuffle (p x) (q x) (list_any p xs) (list_any q xs)

-- some pair of the two lists is related, whichever list comes first
pub any_swap : {X Y : Type 0} (r : X → Y → Bool) (xs : List X) (ys : List Y)
    → list_any (λ x. list_any (r x) ys) xs ≡ list_any (λ y. list_any (λ x. r x y) xs) ys
any_swap r [] ys = sym (any_none ys)
any_swap r (x ∷ xs) ys = (λ i. list_any (r x) ys || any_swap r xs ys i) ∙ sym (any_or (r x) (λ y. list_any (λ x. r x y) xs) ys)

pub any_map : {X Y : Type 0} (p : Y → Bool) (f : X → Y) (xs : List X) → list_any p (map f xs) ≡ list_any (λ x. p (f x)) xs
any_map p f [] = refl
any_map p f (x ∷ xs) = λ i. p (f x) || any_map p f xs i
