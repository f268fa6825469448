-- Lists of which every item is there.
use Rattle.std.proofs.Common.{◌≡◌, ◌<◌, ◌+◌, ℕ, List, [], ◌∷◌, ◌++◌, map, take, get_or, length, refl, sym, ap, ◌∙◌, Option, Some, None}
use Rattle.std.specs.List.{cons_option, filter_map}
use Rattle.std.specs.Option.{option_map, option_to_list}
use Rattle.std.proofs.lemmas.List.{append-nil, map-append}
use Rattle.std.proofs.lemmas.List.Elements.{filter_map-append}
use Rattle.op_properties.specs.Asked.{each_there}
use Rattle.op_properties.proofs.Firsts.{take_one_more}

at_both_ends : {T : Type 0} (first last : T) (items : Option (List T))
    → option_map (λ others. first ∷ others) (option_map (λ others. others ++ last ∷ []) items)
    ≡ option_map (λ others. others ++ last ∷ []) (option_map (λ others. first ∷ others) items)
at_both_ends first last None = refl
at_both_ends first last (Some items) = refl

-- one more that is there
each_more : {T : Type 0} (items : List (Option T)) (last : T)
    → each_there (items ++ Some last ∷ []) ≡ option_map (λ others. others ++ last ∷ []) (each_there items)
each_more [] last = refl
each_more (None ∷ items) last = refl
each_more (Some first ∷ items) last =
    ap (option_map (λ others. first ∷ others)) (each_more items last) ∙ at_both_ends first last (each_there items)

module _ {A B : Type 0} (read : A → Option B) where
  -- one more that is read
  pub map_more : (items : List A) (item : A) (found : List B) (value : B)
      → each_there (map read items) ≡ Some found → read item ≡ Some value → each_there (map read (items ++ item ∷ [])) ≡ Some (found ++ value ∷ [])
  map_more items item found value before here =
      ap each_there (map-append read items (item ∷ []) ∙ ap (λ one. map read items ++ one ∷ []) here)
      ∙ each_more (map read items) value
      ∙ ap (option_map (λ others. others ++ value ∷ [])) before

  pub first_more : (items : List A) (i : ℕ) (item : A) (found : List B) (value : B) → i < length items → item ≡ get_or items i item
      → each_there (map read (take i items)) ≡ Some found → read item ≡ Some value → each_there (map read (take (i + 1) items)) ≡ Some (found ++ value ∷ [])
  first_more items i item found value below is before here =
      ap (λ first. each_there (map read first)) (take_one_more items i item below is) ∙ map_more (take i items) item found value before here

  -- one more, which may give nothing to read
  given_more : (items : List A) (given : Option A) (found : List B) (value : Option B) → each_there (map read items) ≡ Some found
      → option_map read given ≡ option_map Some value → each_there (map read (items ++ cons_option given [])) ≡ Some (found ++ option_to_list value)
  given_more items None found None before here =
      ap (λ all. each_there (map read all)) (append-nil items) ∙ before ∙ ap Some (sym (append-nil found))
  given_more items None found (Some value) before here = absurd (let bad : None ≡ Some (Some value) = here in cc)
  given_more items (Some item) found None before here = absurd (let bad : Some (read item) ≡ None = here in cc)
  given_more items (Some item) found (Some value) before here =
      let same : Some (read item) ≡ Some (Some value) = here in
      map_more items item found value before cc

  pub filtered_more : {P : Type 0} (gives : P → Option A) (all : List P) (i : ℕ) (p : P) (found : List B) (value : Option B) → i < length all → p ≡ get_or all i p
      → each_there (map read (filter_map gives (take i all))) ≡ Some found → option_map read (gives p) ≡ option_map Some value
      → each_there (map read (filter_map gives (take (i + 1) all))) ≡ Some (found ++ option_to_list value)
  filtered_more gives all i p found value below is before here =
      ap (λ first. each_there (map read first))
      (ap (filter_map gives) (take_one_more all i p below is) ∙ filter_map-append gives (take i all) (p ∷ []))
      ∙ given_more (filter_map gives (take i all)) (gives p) found value before here
