-- Lists seen through a function.
use Rattle.std.proofs.Common.{◌≡◌, ◌||◌, ◌+◌, ◌<◌, ℕ, Bool, true, false, List, [], ◌∷◌, ◌++◌, cond, length, get_or, map, take, refl, sym, ap, ◌∙◌, subst}
use Rattle.std.specs.Borrow.{Bor}
use Rattle.std.specs.List.{All, filter, list_any}
use Rattle.std.proofs.lemmas.List.{append-nil, get_or-map, length-map, map-append}
use Rattle.std.proofs.lemmas.List.Elements.{filter_more}

pub list_any_map : {A B : Type 0} (test : B → Bool) (see : A → B) (xs : List A) → list_any test (map see xs) ≡ list_any (λ x. test (see x)) xs
list_any_map test see [] = refl
list_any_map test see (x ∷ xs) = ap (λ b. test (see x) || b) (list_any_map test see xs)

pub all_seen : {A B : Type 0} (P : B → Type 0) (see : A → B) (xs : List A) → All P (map see xs) → All (λ x. P (see x)) xs
all_seen P see xs all k d below =
    let long : k < length (map see xs) = rw length-map below in
    subst P (get_or-map see xs k d (see d) below) (all k (see d) long)

-- one more item of a filter, left out or kept
module _ {T : Type 0} (keep : T → Bool) (from : List T) (i : ℕ) (x : T) (below : i < length from) (at : x ≡ get_or from i x) where
  grown : (b : Bool) → keep x ≡ b → filter keep (take (i + 1) from) ≡ filter keep (take i from) ++ cond b (x ∷ []) []
  grown b h = filter_more keep from i x below
      ∙ ap (λ y. filter keep (take i from) ++ cond (keep y) (y ∷ []) []) (sym at)
      ∙ ap (λ b. filter keep (take i from) ++ cond b (x ∷ []) []) h

  pub filter_passed : (found : List T) → keep x ≡ false → found ≡ filter keep (take i from) → found ≡ filter keep (take (i + 1) from)
  filter_passed found h so = so ∙ sym (append-nil (filter keep (take i from))) ∙ sym (grown false h)

  pub filter_kept : (found more : List (Bor T)) (item : Bor T) → keep x ≡ true → item.now ≡ x → more ≡ found ++ item ∷ []
      → map (λ item. item.now) found ≡ filter keep (take i from) → map (λ item. item.now) more ≡ filter keep (take (i + 1) from)
  filter_kept found more item h same pushed so =
      ap (map (λ (item : Bor T). item.now)) pushed ∙ map-append (λ (item : Bor T). item.now) found (item ∷ [])
      ∙ ap (λ front. front ++ item.now ∷ []) so ∙ ap (λ y. filter keep (take i from) ++ y ∷ []) same ∙ sym (grown true h)
