-- Entries of which two have one name.
use Rattle.std.proofs.Common.{◌≡◌, ◌||◌, ◌+◌, ◌<◌, ℕ, Bool, true, false, List, [], ◌∷◌, ◌++◌, length, get_or, map, take, drop, refl, sym, ap, ◌∙◌}
use Rattle.std.specs.Borrow.{Bor}
use Rattle.std.specs.List.{list_any}
use Rattle.std.proofs.lemmas.List.{map-append, take-append-drop, take_more}
use Rattle.std.proofs.lemmas.List.Folds.{list_any-append}
use Rattle.fbc_types.specs.Channels.{has_name, has_name_twice}
use Rattle.fbc_types.specs.Texts.{same}
use Rattle.fbc_types.specs.declared.catalog.Entry.{Entry}

moved : (a b c d : Bool) → ((a || (b || false)) || (c || d)) ≡ ((a || c) || (b || d))
moved true b c d = refl
moved false true true d = refl
moved false true false d = refl
moved false false c d = refl

-- one more entry at the end
last_is : (entries : List Entry) (entry : Entry) → has_name_twice (entries ++ entry ∷ []) ≡ (has_name_twice entries || has_name entry.name entries)
last_is [] entry = refl
last_is (first ∷ entries) entry =
    ap (λ b. b || has_name_twice (entries ++ entry ∷ [])) (list_any-append (λ other. same first.name other.name) entries (entry ∷ []))
    ∙ ap (λ b. (list_any (λ other. same first.name other.name) entries || (same first.name entry.name || false)) || b) (last_is entries entry)
    ∙ moved (list_any (λ other. same first.name other.name) entries) (same first.name entry.name) (has_name_twice entries) (has_name entry.name entries)

some_kept : (a b c d : Bool) → (b ≡ true → d ≡ true) → (a || b) ≡ true → ((a || c) || d) ≡ true
some_kept true b c d k h = refl
some_kept false b true d k h = refl
some_kept false b false d k h = k h

front_is : (entries others : List Entry) → has_name_twice entries ≡ true → has_name_twice (entries ++ others) ≡ true
front_is [] others h = absurd (let bad : false ≡ true = h in cc)
front_is (first ∷ entries) others h =
    ap (λ b. b || has_name_twice (entries ++ others)) (list_any-append (λ other. same first.name other.name) entries others)
    ∙ some_kept (list_any (λ other. same first.name other.name) entries) (has_name_twice entries) (list_any (λ other. same first.name other.name) others) (has_name_twice (entries ++ others)) (front_is entries others) h

abbrev seen : List (Bor Entry) → List Entry
seen chain = map (λ entry. entry.now) chain

module _ (chain : List (Bor Entry)) (i : ℕ) (x : Bor Entry) (below : i < length chain) (at : x ≡ get_or chain i x) where
  more : seen (take (i + 1) chain) ≡ seen (take i chain) ++ x.now ∷ []
  more = ap seen (take_more chain i x below ∙ ap (λ y. take i chain ++ y ∷ []) (sym at)) ∙ map-append (λ (e : Bor Entry). e.now) (take i chain) (x ∷ [])

  step : (b : Bool) → has_name x.now.name (seen (take i chain)) ≡ b → has_name_twice (seen (take i chain)) ≡ false → has_name_twice (seen (take (i + 1) chain)) ≡ b
  step b h once = ap has_name_twice more ∙ last_is (seen (take i chain)) x.now ∙ ap (λ c. c || has_name x.now.name (seen (take i chain))) once ∙ h

  -- the name stood before
  pub met_twice : has_name x.now.name (seen (take i chain)) ≡ true → has_name_twice (seen (take i chain)) ≡ false → true ≡ has_name_twice (seen chain)
  met_twice h once =
      let whole : seen chain ≡ seen (take (i + 1) chain) ++ seen (drop (i + 1) chain) =
      ap seen (sym (take-append-drop (i + 1) chain)) ∙ map-append (λ (e : Bor Entry). e.now) (take (i + 1) chain) (drop (i + 1) chain) in
      sym (ap has_name_twice whole ∙ front_is (seen (take (i + 1) chain)) (seen (drop (i + 1) chain)) (step true h once))

  -- it didn't
  pub still_once : has_name x.now.name (seen (take i chain)) ≡ false → has_name_twice (seen (take i chain)) ≡ false → has_name_twice (seen (take (i + 1) chain)) ≡ false
  still_once h once = step false h once

  -- the names met so far
  pub named_more : (name : List ℕ) (old new : Bool) → new ≡ (old || same x.now.name name) → old ≡ has_name name (seen (take i chain)) → new ≡ has_name name (seen (take (i + 1) chain))
  named_more name old new added so =
      let ended : (a b : Bool) → (a || b) ≡ (a || (b || false)) = λ a b. elim a as (λ a. (a || b) ≡ (a || (b || false))) [ true ↦ refl | false ↦ elim b as (λ b. b ≡ (b || false)) [ true ↦ refl | false ↦ refl ] ] in
      added ∙ ap (λ b. b || same x.now.name name) so ∙ ended (has_name name (seen (take i chain))) (same x.now.name name)
      ∙ sym (ap (has_name name) more ∙ list_any-append (λ entry. same entry.name name) (seen (take i chain)) (x.now ∷ []))
