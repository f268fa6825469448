-- There is a listing below each path of a folder, and so a text or the cause for which there is none.
use Rattle.std.proofs.Common.{◌≡◌, ◌∙◌, ℕ, zero, suc, ◌+◌, ◌<◌, get_or, arith, List, [], ◌∷◌, Bool, true, false, if◌then◌else◌, length, map, refl, sym, ap, subst, Option, Some, None, Result, Ok, Err}
use Rattle.std.proofs.lemmas.Cmp.{nat_list_cmp_total}
use Rattle.std.proofs.lemmas.List.Elements.{All-nil, All-from_recursion}
use Rattle.std.proofs.lemmas.List.Sorted.{ranks_by, IsPermutation-cons, IsPermutation-middle, IsPermutation-refl, IsPermutation-trans}
use Rattle.std.specs.Bool.{⊤}
use Rattle.std.specs.Cmp.Lexicographic.{slice_cmp}
use Rattle.std.specs.List.{AllByRecursion}
use Rattle.std.specs.List.Sorted.{IsPermutation}
use Rattle.std.specs.Ordering.{is_lt, nat_cmp}
use Rattle.olm_base.specs.Outcome.{Gives}
use Rattle.olm_folder.specs.Files.{AreBelow, bytes_at, paths_below}
use Rattle.olm_io.specs.declared.traits.FolderFault.TheVariants as folder
use Rattle.upgrade_graph.specs.Sorting.{put_in, sorted}
use Rattle.fbc_read.specs.Bodies.{AreListed, GivesBody, IsBody, ReadsAs, body, input_limit}
use Rattle.fbc_read.specs.declared.bodies.BodyFault.{BodyFault}
use Rattle.fbc_read.specs.declared.bodies.BodyFault.TheVariants.{Folder, Yaml, Split, Memory}
use Rattle.olm_cli.specs.declared.causes.Cause.{Cause}
use Rattle.olm_cli.specs.Causes.{is_free}
use Rattle.olm_cli.specs.Places.{FolderHolds, body_cause, or_body_cause}

abbrev comes_first : List ℕ → List ℕ → Bool
comes_first path other = is_lt (slice_cmp nat_cmp path other)

one_way : (path other : List ℕ) → comes_first path other ≡ true → comes_first other path ≡ false
one_way path other h = (ranks_by nat_list_cmp_total (λ (p : List ℕ). p)).one_way path other h

-- no path comes before the one that it follows
abbrev InOrder : List (List ℕ) → Type 0
InOrder [] = ⊤
InOrder (path ∷ []) = ⊤
InOrder (path ∷ next ∷ paths) = (comes_first next path ≡ false) × InOrder (next ∷ paths)

put_after : (low path : List ℕ) (paths : List (List ℕ)) → comes_first path low ≡ false → InOrder (low ∷ paths) → InOrder (low ∷ put_in comes_first path paths)
put_after low path [] h up = (h, tt)
put_after low path (next ∷ paths) h up =
    let go : (b : Bool) → comes_first next path ≡ b → InOrder (low ∷ (if b then next ∷ put_in comes_first path paths else path ∷ next ∷ paths)) =
    λ b. elim b as (λ b. comes_first next path ≡ b → InOrder (low ∷ (if b then next ∷ put_in comes_first path paths else path ∷ next ∷ paths))) [
      | true ↦ λ k. (up.0, put_after next path paths (one_way next path k) up.1)
      | false ↦ λ k. (h, (k, up.1))
    ] in
    go (comes_first next path) refl

put_first : (path : List ℕ) (paths : List (List ℕ)) → InOrder paths → InOrder (put_in comes_first path paths)
put_first path [] up = tt
put_first path (next ∷ paths) up =
    let go : (b : Bool) → comes_first next path ≡ b → InOrder (if b then next ∷ put_in comes_first path paths else path ∷ next ∷ paths) =
    λ b. elim b as (λ b. comes_first next path ≡ b → InOrder (if b then next ∷ put_in comes_first path paths else path ∷ next ∷ paths)) [
      | true ↦ λ k. put_after next path paths (one_way next path k) up
      | false ↦ λ k. (k, up)
    ] in
    go (comes_first next path) refl

sorted_up : (paths : List (List ℕ)) → InOrder (sorted comes_first paths)
sorted_up [] = tt
sorted_up (path ∷ paths) = put_first path (sorted comes_first paths) (sorted_up paths)

by_places : (paths : List (List ℕ)) → InOrder paths → (k : ℕ) (d : List ℕ) → k + 1 < length paths → comes_first (get_or paths (k + 1) d) (get_or paths k d) ≡ false
by_places [] up k d below = absurd (omega (arith, below))
by_places (path ∷ []) up k d below = absurd (omega (arith, below))
by_places (path ∷ next ∷ paths) up zero d below = up.0
by_places (path ∷ next ∷ paths) up (suc k) d below =
    let further : suc k + 1 ≡ suc (k + 1) = omega arith in
    let rest = by_places (next ∷ paths) up.1 k d (omega (arith, below)) in
    subst (λ (n : ℕ). comes_first (get_or (path ∷ next ∷ paths) n d) (get_or (next ∷ paths) k d) ≡ false) (sym further) rest

put_permutes : (path : List ℕ) (paths : List (List ℕ)) → IsPermutation (path ∷ paths) (put_in comes_first path paths)
put_permutes path [] = IsPermutation-refl (path ∷ [])
put_permutes path (next ∷ paths) =
    let go : (b : Bool) → IsPermutation (path ∷ next ∷ paths) (if b then next ∷ put_in comes_first path paths else path ∷ next ∷ paths) =
    λ b. elim b as (λ b. IsPermutation (path ∷ next ∷ paths) (if b then next ∷ put_in comes_first path paths else path ∷ next ∷ paths)) [
      | true ↦ IsPermutation-trans _ _ _ (IsPermutation-middle (path ∷ []) next paths) (IsPermutation-cons next (path ∷ paths) (put_in comes_first path paths) (put_permutes path paths))
      | false ↦ IsPermutation-refl (path ∷ next ∷ paths)
    ] in
    go (comes_first next path)

sorted_permutes : (paths : List (List ℕ)) → IsPermutation paths (sorted comes_first paths)
sorted_permutes [] = IsPermutation-refl []
sorted_permutes (path ∷ paths) = IsPermutation-trans _ _ _ (IsPermutation-cons path paths (sorted comes_first paths) (sorted_permutes paths)) (put_permutes path (sorted comes_first paths))

abbrev listed : List ℕ → List (List ℕ × List ℕ) → List (List ℕ)
listed under told = sorted comes_first (paths_below under told)

are_listed : (under : List ℕ) (told : List (List ℕ × List ℕ)) → AreBelow under told (listed under told)
are_listed under told = record {
  all = sorted_permutes (paths_below under told);
  order = λ k d low below. by_places (listed under told) (sorted_up (paths_below under told)) k d below;
}

abbrev file_at : List (List ℕ × List ℕ) → List ℕ → List ℕ × List ℕ
file_at told path = (path, bytes_at path told)

paths_of : (told : List (List ℕ × List ℕ)) (paths : List (List ℕ)) → map (λ (file : List ℕ × List ℕ). file.0) (map (file_at told) paths) ≡ paths
paths_of told [] = refl
paths_of told (path ∷ paths) = ap (λ others. path ∷ others) (paths_of told paths)

read_so : (told : List (List ℕ × List ℕ)) (paths : List (List ℕ)) → AllByRecursion (ReadsAs (Some told)) (map (file_at told) paths)
read_so told [] = tt
read_so told (path ∷ paths) = (refl, read_so told paths)

a_listing : (held : Option (List (List ℕ × List ℕ))) (under : List ℕ) → (files : List (List ℕ × List ℕ)) × AreListed held under files
a_listing None under = ([], record { paths = ([], tt, are_listed under []); bytes = All-nil (ReadsAs None) })
a_listing (Some told) under =
    let files = map (file_at told) (listed under told) in (
      files,
      record {
        paths = (told, refl, subst (AreBelow under told) (sym (paths_of told (listed under told))) (are_listed under told));
        bytes = All-from_recursion (ReadsAs (Some told)) files (read_so told (listed under told));
      },
    )

a_body : (held : Option (List (List ℕ × List ℕ))) (under : List ℕ) (limit : ℕ) → (found : Result (List ℕ) BodyFault) × IsBody held under limit found
a_body held under limit = let l = a_listing held under in (body limit l.0, (l.0, l.1, refl))

pub a_folder_text : (held : Option (List (List ℕ × List ℕ))) (under : List ℕ) → (found : Result (List ℕ) Cause) × FolderHolds under held found
a_folder_text held under = let b = a_body held under input_limit in (or_body_cause b.0, (b.0, b.1, refl))

-- an answer for a fault that may come at any time
any_text : (held : Option (List (List ℕ × List ℕ))) (under : List ℕ) (cause : Cause) → is_free cause ≡ true → (found : Result (List ℕ) Cause) × FolderHolds under held found × Gives is_free found (Err cause)
any_text held under cause free = let t = a_folder_text held under in (t.0, t.1, λ bound. absurd (let bad : true ≡ false = sym free ∙ bound in cc))

that_text : (held : Option (List (List ℕ × List ℕ))) (under : List ℕ) (fault : BodyFault) → IsBody held under input_limit (Err fault) → (found : Result (List ℕ) Cause) × FolderHolds under held found × Gives is_free found (Err (body_cause fault))
that_text held under fault b = (Err (body_cause fault), (Err fault, b, refl), λ bound. refl)

-- the text of a folder, by the body that was answered
pub folder_gives : (held : Option (List (List ℕ × List ℕ))) (under : List ℕ) (answer : Result (List ℕ) BodyFault) → GivesBody held under input_limit answer
    → (found : Result (List ℕ) Cause) × FolderHolds under held found × Gives is_free found (or_body_cause answer)
folder_gives held under (Ok text) b = (Ok text, (Ok text, b, refl), refl)
folder_gives held under (Err (Folder folder.Failed)) b = any_text held under (body_cause (Folder folder.Failed)) refl
folder_gives held under (Err (Folder (folder.TooLong limit))) b = that_text held under (Folder (folder.TooLong limit)) (b refl)
folder_gives held under (Err (Folder folder.Memory)) b = that_text held under (Folder folder.Memory) (b refl)
folder_gives held under (Err (Yaml path)) b = that_text held under (Yaml path) (b refl)
folder_gives held under (Err (Split path fault)) b = that_text held under (Split path fault) (b refl)
folder_gives held under (Err Memory) b = any_text held under (body_cause Memory) refl
