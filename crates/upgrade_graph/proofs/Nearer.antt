-- Upgrades found one by one.
use Rattle.std.proofs.Common.{◌≡◌, ◌+◌, ◌<◌, ℕ, suc, Bool, true, false, not, if◌then◌else◌, List, [], ◌∷◌, ◌++◌, cond, length, get_or, map, take, drop, refl, sym, ap, ◌∙◌, arith, append_assoc, add-one}
use Rattle.std.specs.List.{filter, prefix_len}
use Rattle.std.proofs.Math.Seq.{drop-cons}
use Rattle.semver.specs.Parse.{Parts}
use Rattle.fbc_types.specs.Texts.{same}
use Rattle.fbc_types.specs.declared.catalog.Entry.{Entry}
use Rattle.upgrade_graph.specs.Order.{names}
use Rattle.upgrade_graph.specs.Upgrades.{takes_place, upgrades_among}

module _ {T : Type 0} (see : T → Entry) (name : List ℕ) (version : Parts) where
  abbrev wanted : List T → List (List ℕ)
  wanted entries = names (upgrades_among (map see entries) name version)

  abbrev kept : Bool → Bool → Entry → List Entry → List Entry
  kept is_it takes entry rest =
      if is_it then [] else (if takes then entry ∷ upgrades_among rest name version else upgrades_among rest name version)

  among_one : (entry : Entry) (rest : List Entry) → upgrades_among (entry ∷ rest) name version ≡ kept (same entry.name name) (takes_place name version entry) entry rest
  among_one entry rest =
      let go : (b : Bool) → filter (takes_place name version) (take (cond (not b) (1 + prefix_len (λ (entry : Entry). not (same entry.name name)) rest) 0) (entry ∷ rest)) ≡ kept b (takes_place name version entry) entry rest =
      λ b. elim b as (λ b. filter (takes_place name version) (take (cond (not b) (1 + prefix_len (λ (entry : Entry). not (same entry.name name)) rest) 0) (entry ∷ rest)) ≡ kept b (takes_place name version entry) entry rest) [
        | true ↦ refl
        | false ↦ let one : 1 + prefix_len (λ (entry : Entry). not (same entry.name name)) rest ≡ suc (prefix_len (λ (entry : Entry). not (same entry.name name)) rest) = omega arith in
            ap (λ n. filter (takes_place name version) (take n (entry ∷ rest))) one
      ] in
      go (same entry.name name)

  dropped : (entries : List T) (i : ℕ) (entry : T) → i < length entries → entry ≡ get_or entries i entry → drop i entries ≡ entry ∷ drop (i + 1) entries
  dropped entries i entry below at = drop-cons entries i entry below ∙ ap (λ e. e ∷ drop (suc i) entries) (sym at) ∙ ap (λ n. entry ∷ drop n entries) (sym (add-one i))

  wanted_one : (entries : List T) (i : ℕ) (entry : T) (is_it takes : Bool) → i < length entries → entry ≡ get_or entries i entry
      → same (see entry).name name ≡ is_it → takes_place name version (see entry) ≡ takes
      → wanted (drop i entries) ≡ names (kept is_it takes (see entry) (map see (drop (i + 1) entries)))
  wanted_one entries i entry is_it takes below at h k =
      ap wanted (dropped entries i entry below at)
      ∙ ap names (among_one (see entry) (map see (drop (i + 1) entries)))
      ∙ ap (λ b. names (kept b (takes_place name version (see entry)) (see entry) (map see (drop (i + 1) entries)))) h
      ∙ ap (λ b. names (kept is_it b (see entry) (map see (drop (i + 1) entries)))) k

  pub upgrade_passed : (entries : List T) (i : ℕ) (entry : T) (found whole : List (List ℕ)) → i < length entries → entry ≡ get_or entries i entry
      → same (see entry).name name ≡ false → takes_place name version (see entry) ≡ false
      → found ++ wanted (drop i entries) ≡ whole → found ++ wanted (drop (i + 1) entries) ≡ whole
  upgrade_passed entries i entry found whole below at h k so =
      ap (λ rest. found ++ rest) (sym (wanted_one entries i entry false false below at h k)) ∙ so

  pub upgrade_kept : (entries : List T) (i : ℕ) (entry : T) (found more whole : List (List ℕ)) (copy : List ℕ) → i < length entries → entry ≡ get_or entries i entry
      → same (see entry).name name ≡ false → takes_place name version (see entry) ≡ true → copy ≡ (see entry).name → more ≡ found ++ copy ∷ []
      → found ++ wanted (drop i entries) ≡ whole → more ++ wanted (drop (i + 1) entries) ≡ whole
  upgrade_kept entries i entry found more whole copy below at h k copied pushed so =
      ap (λ front. front ++ wanted (drop (i + 1) entries)) (pushed ∙ ap (λ name. found ++ name ∷ []) copied)
      ∙ append_assoc found ((see entry).name ∷ []) (wanted (drop (i + 1) entries))
      ∙ ap (λ rest. found ++ rest) (sym (wanted_one entries i entry false true below at h k)) ∙ so
