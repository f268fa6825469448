-- Names that are kept once.
use Rattle.std.proofs.Common.{◌≡◌, ◌||◌, ◌+◌, ◌<◌, ℕ, Bool, true, false, not, List, [], ◌∷◌, ◌++◌, length, get_or, take, filter, refl, sym, ap, ◌∙◌, inl, inr}
use Rattle.std.specs.List.{list_any}
use Rattle.std.proofs.lemmas.Bool.{cases_Bool, or_cases, or_parts, not_from_false, not_from_true, cond-true, cond-false}
use Rattle.std.proofs.lemmas.Cmp.{nat_list_eq_equiv}
use Rattle.std.proofs.lemmas.List.{append-nil, take_more}
use Rattle.std.proofs.lemmas.List.Elements.{filter-append}
use Rattle.std.proofs.lemmas.List.Folds.{list_any_more}
use Rattle.cluster_objects.specs.Keys.{same_text}
use Rattle.object_bodies.specs.Statuses.{each_once}

abbrev pub is_named : List (List ℕ) → List ℕ → Bool
is_named names name = list_any (λ other. same_text other name) names

turned : (a b : List ℕ) → same_text a b ≡ same_text b a
turned a b = nat_list_eq_equiv.symm a b

-- one more name: kept last where it wasn't there
pub once-new : (names : List (List ℕ)) (name : List ℕ) → is_named names name ≡ false → each_once (names ++ name ∷ []) ≡ each_once names ++ name ∷ []
once-new [] name e = refl
once-new (first ∷ names) name e =
    let (apart, never) = or_parts (same_text first name) (is_named names name) e in
    let stays : not (same_text name first) ≡ true = not_from_false (same_text name first) (turned name first ∙ apart) in
    let other : List ℕ → Bool = λ other. not (same_text other first) in
    ap (λ xs. first ∷ filter other xs) (once-new names name never)
    ∙ ap (λ xs. first ∷ xs) (filter-append other (each_once names) (name ∷ [])
    ∙ ap (λ xs. filter other (each_once names) ++ xs) (cond-true (not (same_text name first)) (name ∷ []) [] stays))

-- and not again where it was
pub once-seen : (names : List (List ℕ)) (name : List ℕ) → is_named names name ≡ true → each_once (names ++ name ∷ []) ≡ each_once names
once-seen [] name e = absurd (let bad : false ≡ true = e in cc)
once-seen (first ∷ names) name e =
    let other : List ℕ → Bool = λ other. not (same_text other first) in
    elim (cases_Bool (is_named names name)) [
      | inl later ↦ ap (λ xs. first ∷ filter other xs) (once-seen names name later)
      | inr never ↦
          elim (or_cases (same_text first name) (is_named names name) e) [
            | inl same ↦
                (let gone : not (same_text name first) ≡ false = not_from_true (same_text name first) (turned name first ∙ same) in
                ap (λ xs. first ∷ filter other xs) (once-new names name never)
                ∙ ap (λ xs. first ∷ xs) (filter-append other (each_once names) (name ∷ [])
                ∙ (ap (λ xs. filter other (each_once names) ++ xs) (cond-false (not (same_text name first)) (name ∷ []) [] gone)
                ∙ append-nil (filter other (each_once names)))))
            | inr later ↦ absurd (let bad : false ≡ true = sym never ∙ later in cc)
          ]
    ]

-- ---- one more name of a list that is gone through

module _ (names : List (List ℕ)) (i : ℕ) (name : List ℕ) (below : i < length names) (at : name ≡ get_or names i name) where
  more : take (i + 1) names ≡ take i names ++ name ∷ []
  more = take_more names i name below ∙ ap (λ other. take i names ++ other ∷ []) (sym at)

  pub named_more : (old new : Bool) (other : List ℕ) → new ≡ (old || same_text name other) → old ≡ is_named (take i names) other → new ≡ is_named (take (i + 1) names) other
  named_more old new other added so =
      added ∙ ap (λ b. b || same_text name other) so ∙ ap (λ x. is_named (take i names) other || same_text x other) at
      ∙ sym (list_any_more (λ x. same_text x other) names i name below)

  pub once_more-new : (once : List (List ℕ)) → is_named (take i names) name ≡ false → once ≡ each_once (take i names) → once ++ name ∷ [] ≡ each_once (take (i + 1) names)
  once_more-new once never so = ap (λ xs. xs ++ name ∷ []) so ∙ sym (once-new (take i names) name never) ∙ ap each_once (sym more)

  pub once_more-seen : (once : List (List ℕ)) → is_named (take i names) name ≡ true → once ≡ each_once (take i names) → once ≡ each_once (take (i + 1) names)
  once_more-seen once there so = so ∙ sym (once-seen (take i names) name there) ∙ ap each_once (sym more)
