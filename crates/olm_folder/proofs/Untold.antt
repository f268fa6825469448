-- Files that a folder may hold of which nothing is told.
use Rattle.std.proofs.Common.{◌≡◌, ℕ, true, nat_eq, List, [], ◌∷◌, map, refl, ap, sym, subst, cond, Result}
use Rattle.std.specs.List.{list_all}
use Rattle.std.specs.List.Sorted.{IsPermutation, IsSorted}
use Rattle.std.specs.Ordering.{nat_cmp}
use Rattle.std.specs.Cmp.Lexicographic.{slice_cmp, pointwise}
use Rattle.std.proofs.lemmas.Bool.{and_parts, eq-eqb}
use Rattle.olm_base.specs.Outcome.{Gives}
use Rattle.olm_io.specs.ReadAll.{is_free, whole}
use Rattle.olm_io.specs.declared.traits.FolderFault.{FolderFault}
use Rattle.olm_folder.specs.Files.{AreBelow, bytes_at, is_below, paths_below}

-- empty files of these paths
abbrev empty_files : List (List ℕ) → List (List ℕ × List ℕ)
empty_files paths = map (λ path. (path, [])) paths

below_again : (under : List ℕ) (paths : List (List ℕ)) → list_all (is_below under) paths ≡ true → paths_below under (empty_files paths) ≡ paths
below_again under [] h = refl
below_again under (path ∷ paths) h =
    let parts = and_parts (is_below under path) (list_all (is_below under) paths) h in
    let later = below_again under paths parts.1 in
    rw parts.0 (ap (λ others. path ∷ others) later)

-- paths that are below a folder are those of some files
pub some_files : (under : List ℕ) (found paths : List (List ℕ)) → list_all (is_below under) found ≡ true → IsPermutation found paths → IsSorted (slice_cmp nat_cmp) paths → (files : List (List ℕ × List ℕ)) × AreBelow under files paths
some_files under found paths h permuted sorted =
    (empty_files found, record { all = subst (λ listed. IsPermutation listed paths) (sym (below_again under found h)) permuted; order = sorted })

same_path : (path : List ℕ) → pointwise nat_eq path path ≡ true
same_path [] = refl
same_path (byte ∷ bytes) = rw (eq-eqb byte byte refl) (same_path bytes)

-- a text is that of some file
pub some_file : (path : List ℕ) (limit : ℕ) (text : List ℕ) (answer : Result (List ℕ) FolderFault) → Gives is_free (whole limit text) answer → (files : List (List ℕ × List ℕ)) × Gives is_free (whole limit (bytes_at path files)) answer
some_file path limit text answer given =
    ((path, text) ∷ [], subst (λ b. Gives is_free (whole limit (cond b text [])) answer) (sym (same_path path)) given)
