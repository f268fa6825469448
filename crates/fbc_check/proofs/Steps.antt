-- One more item of a list that is gone through.
use Rattle.std.proofs.Common.{◌≡◌, ◌||◌, ◌+◌, ◌<◌, ℕ, Bool, true, false, not, if◌then◌else◌, List, [], ◌∷◌, ◌++◌, length, filter, get_or, take, drop, suc, refl, sym, ap, ◌∙◌, arith, append_assoc, drop-cons}
use Rattle.std.specs.List.{flat_map, list_any}
use Rattle.std.proofs.lemmas.List.{take_more}
use Rattle.std.proofs.lemmas.List.Folds.{list_any_more}
use Rattle.fbc_types.specs.Rules.{by_earlier}
use Rattle.fbc_types.specs.declared.fault.CheckFault.{CheckFault}

module _ {T : Type 0} (items : List T) (i : ℕ) (x : T) (below : i < length items) (at : x ≡ get_or items i x) where
  rest : drop i items ≡ x ∷ drop (i + 1) items
  rest =
      let next : suc i ≡ i + 1 = omega arith in
      drop-cons items i x below ∙ ap (λ y. y ∷ drop (suc i) items) (sym at) ∙ ap (λ n. x ∷ drop n items) next

  more : take (i + 1) items ≡ take i items ++ x ∷ []
  more = take_more items i x below ∙ ap (λ y. take i items ++ y ∷ []) (sym at)

  -- what is noted of the items up to here, and of the rest
  pub noted_more : (report : T → List CheckFault) (old new whole : List CheckFault) → new ≡ old ++ report x
      → old ++ flat_map report (drop i items) ≡ whole → new ++ flat_map report (drop (i + 1) items) ≡ whole
  noted_more report old new whole noted so =
      ap (λ w. w ++ flat_map report (drop (i + 1) items)) noted
      ∙ append_assoc old (report x) (flat_map report (drop (i + 1) items))
      ∙ ap (λ w. old ++ flat_map report w) (sym rest) ∙ so

  -- the same, where it hangs on the items before
  pub earlier_more : (report : List T → T → List CheckFault) (old new whole : List CheckFault) → new ≡ old ++ report (take i items) x
      → old ++ by_earlier report (take i items) (drop i items) ≡ whole → new ++ by_earlier report (take (i + 1) items) (drop (i + 1) items) ≡ whole
  earlier_more report old new whole noted so =
      ap (λ w. w ++ by_earlier report (take (i + 1) items) (drop (i + 1) items)) noted
      ∙ append_assoc old (report (take i items) x) (by_earlier report (take (i + 1) items) (drop (i + 1) items))
      ∙ ap (λ w. old ++ (report (take i items) x ++ by_earlier report w (drop (i + 1) items))) more
      ∙ ap (λ w. old ++ by_earlier report (take i items) w) (sym rest) ∙ so

  -- whether one of the items up to here passes a test
  pub any_more : (test : T → Bool) (old new : Bool) → new ≡ (old || test x) → old ≡ list_any test (take i items) → new ≡ list_any test (take (i + 1) items)
  any_more test old new added so =
      added ∙ ap (λ b. b || test x) so ∙ ap (λ y. list_any test (take i items) || test y) at ∙ sym (list_any_more test items i x below)

  -- how many of the rest pass a test
  pub count_more : (test : T → Bool) (count one whole : ℕ) → one ≡ length (filter test (x ∷ []))
      → count + length (filter test (drop i items)) ≡ whole → (count + one) + length (filter test (drop (i + 1) items)) ≡ whole
  count_more test count one whole counted so =
      let split : (b : Bool) (others : List T) → length (if b then x ∷ others else others) ≡ length (if b then x ∷ [] else []) + length others =
      λ b others. elim b as (λ b. length (if b then x ∷ others else others) ≡ length (if b then x ∷ [] else []) + length others) [ true ↦ omega arith | false ↦ omega arith ] in
      let all : length (filter test (drop i items)) ≡ one + length (filter test (drop (i + 1) items)) =
      ap (λ w. length (filter test w)) rest ∙ split (test x) (filter test (drop (i + 1) items)) ∙ ap (λ n. n + length (filter test (drop (i + 1) items))) (sym counted) in
      omega (arith, all, so)

-- two reports that agree say the same
pub said_alike : {T : Type 0} (report other : T → List CheckFault) → ((item : T) → report item ≡ other item) → (items : List T) → flat_map report items ≡ flat_map other items
said_alike report other each [] = refl
said_alike report other each (item ∷ items) =
    ap (λ w. w ++ flat_map report items) (each item) ∙ ap (λ w. other item ++ w) (said_alike report other each items)

-- what is noted of a name that isn't new
pub noted_by : (is_new had is_there : Bool) → is_new ≡ not had → had ≡ is_there → not is_new ≡ is_there
noted_by is_new true is_there h k = ap not h ∙ k
noted_by is_new false is_there h k = ap not h ∙ k
