-- There is a list of the files below each path of a folder, and only one where the folder tells what it holds.
use Rattle.std.proofs.Common.{◌≡◌, ◌∙◌, ℕ, zero, suc, ◌+◌, ◌<◌, get_or, arith, List, [], ◌∷◌, Bool, true, false, if◌then◌else◌, length, map, refl, sym, ap, subst, Option, Some, None}
use Rattle.std.specs.Cmp.Lexicographic.{slice_cmp}
use Rattle.std.specs.Bool.{⊤}
use Rattle.std.specs.List.{All, AllByRecursion, sum_by}
use Rattle.std.specs.List.Sorted.{IsPermutation, IsSorted}
use Rattle.std.specs.Ordering.{is_lt, nat_cmp, ordering_reverse}
use Rattle.std.specs.declared.cmp.Ordering.{Ordering}
use Rattle.std.specs.declared.cmp.Ordering.TheVariants.{Less, Equal, Greater}
use Rattle.std.proofs.lemmas.Cmp.{nat_list_cmp_total}
use Rattle.std.proofs.lemmas.List.Elements.{All-nil, All-head, All-tail, All-from_recursion}
use Rattle.std.proofs.lemmas.List.Sorted.{ranks_by, sorted_far, sum_by-IsPermutation, IsPermutation-cons, IsPermutation-middle, IsPermutation-refl, IsPermutation-trans}
use Rattle.std.proofs.lemmas.List.Sums.{sum_by-cons}
use Rattle.std.proofs.lemmas.Map.Lookups.{exact_bytes}
use Rattle.olm_folder.specs.Files.{AreBelow, bytes_at, paths_below}
use Rattle.fbc_read.proofs.Listing.{Files, paths_of}
use Rattle.fbc_read.specs.Bodies.{AreListed, HasOneBody, HasOneListing, ReadsAs, body}

abbrev comes_first : List ℕ → List ℕ → Bool
comes_first path other = is_lt (slice_cmp nat_cmp path other)

-- of two paths one comes first, or they are the same
neither_first : (path other : List ℕ) (r : Ordering) → slice_cmp nat_cmp path other ≡ r → comes_first path other ≡ false → comes_first other path ≡ false → path ≡ other
neither_first path other Less is one two = absurd (let bad : true ≡ false = sym (ap is_lt is) ∙ one in cc)
neither_first path other Equal is one two = exact_bytes path other is
neither_first path other Greater is one two =
    let back : slice_cmp nat_cmp other path ≡ Less = nat_list_cmp_total.antisymm other path ∙ ap ordering_reverse is in
    absurd (let bad : true ≡ false = sym (ap is_lt back) ∙ two in cc)

-- 1 for a path that comes before this one
abbrev before : List ℕ → List ℕ → ℕ
before path other = if comes_first other path then 1 else 0

none_before : (path : List ℕ) (paths : List (List ℕ)) → ((k : ℕ) (d : List ℕ) → k < length paths → comes_first (get_or paths k d) path ≡ false) → sum_by (before path) paths ≡ 0
none_before path [] h = refl
none_before path (next ∷ paths) h =
    let first : before path next ≡ 0 = ap (λ (b : Bool). if b then 1 else 0) (h 0 next (omega arith)) in
    let others = none_before path paths (λ k d below. h (suc k) d (omega (arith, below))) in
    omega (arith, sum_by-cons (before path) next paths, first, others)

-- nothing in a sorted list comes before its first
first_least : (path : List ℕ) (paths : List (List ℕ)) → IsSorted (slice_cmp nat_cmp) (path ∷ paths) → sum_by (before path) (path ∷ paths) ≡ 0
first_least path paths up =
    none_before path (path ∷ paths) (λ k d below. sorted_far comes_first (ranks_by nat_list_cmp_total (λ (p : List ℕ). p)) (path ∷ paths) up 0 k d (omega arith) below)

-- two lists have the same paths, each as often
abbrev SameSums : List (List ℕ) → List (List ℕ) → Type 0
SameSums paths others = (f : List ℕ → ℕ) → sum_by f others ≡ sum_by f paths

not_before : (path other : List ℕ) (others : List (List ℕ)) → sum_by (before path) (other ∷ others) ≡ 0 → (b : Bool) → comes_first other path ≡ b → b ≡ false
not_before path other others none false is = refl
not_before path other others none true is =
    let one : before path other ≡ 1 = ap (λ (b : Bool). if b then 1 else 0) is in
    absurd (omega (arith, sum_by-cons (before path) other others, none, one))

tail_sorted : (path : List ℕ) (paths : List (List ℕ)) → IsSorted (slice_cmp nat_cmp) (path ∷ paths) → IsSorted (slice_cmp nat_cmp) paths
tail_sorted path paths up k d low below =
    let further : suc k + 1 ≡ suc (k + 1) = omega arith in
    subst (λ (n : ℕ). comes_first (get_or (path ∷ paths) n d) (get_or paths k d) ≡ false) further (up (suc k) d (omega arith) (omega (arith, below)))

same_paths : (paths others : List (List ℕ)) → IsSorted (slice_cmp nat_cmp) paths → IsSorted (slice_cmp nat_cmp) others → SameSums paths others → others ≡ paths
same_paths [] [] up up' same = refl
same_paths [] (other ∷ others) up up' same = absurd (omega (arith, same (λ p. 1), sum_by-cons (λ (p : List ℕ). 1) other others))
same_paths (path ∷ paths) [] up up' same = absurd (omega (arith, same (λ p. 1), sum_by-cons (λ (p : List ℕ). 1) path paths))
same_paths (path ∷ paths) (other ∷ others) up up' same =
    let one = not_before path other others (same (before path) ∙ first_least path paths up) (comes_first other path) refl in
    let two = not_before other path paths (sym (same (before other)) ∙ first_least other others up') (comes_first path other) refl in
    let head : other ≡ path = neither_first other path (slice_cmp nat_cmp other path) refl one two in
    let rest : SameSums paths others = λ f. omega (arith, same f, sum_by-cons f path paths, sum_by-cons f other others, ap f head) in
    let tail : others ≡ paths = same_paths paths others (tail_sorted path paths up) (tail_sorted other others up') rest in
    cc

one_order : (under : List ℕ) (told : Files) (paths others : List (List ℕ)) → AreBelow under told paths → AreBelow under told others → others ≡ paths
one_order under told paths others one two =
    same_paths paths others one.order two.order (λ f. sum_by-IsPermutation f (paths_below under told) others two.all ∙ sym (sum_by-IsPermutation f (paths_below under told) paths one.all))

-- files of the same paths that read as the folder tells are the same
same_files : (told files others : Files) → paths_of others ≡ paths_of files → All (ReadsAs (Some told)) files → All (ReadsAs (Some told)) others → others ≡ files
same_files told [] [] named one two = refl
same_files told [] (other ∷ others) named one two = cc named
same_files told (file ∷ files) [] named one two = cc named
same_files told (file ∷ files) (other ∷ others) named one two =
    let path : other.0 ≡ file.0 = cc named in
    let behind : paths_of others ≡ paths_of files = cc named in
    let text : other.1 ≡ file.1 = sym (All-head (ReadsAs (Some told)) other others two) ∙ ap (λ p. bytes_at p told) path ∙ All-head (ReadsAs (Some told)) file files one in
    let head : other ≡ file = ap (λ p. (p, other.1)) path ∙ ap (λ bytes. (file.0, bytes)) text in
    let tail = same_files told files others behind (All-tail (ReadsAs (Some told)) file files one) (All-tail (ReadsAs (Some told)) other others two) in
    ap (λ first. first ∷ others) head ∙ ap (λ more. file ∷ more) tail

one_listing : (told : Files) (under : List ℕ) (files others : Files) → AreListed (Some told) under files → AreListed (Some told) under others → others ≡ files
one_listing told under files others one two =
    let below : AreBelow under told (paths_of files) = subst (λ t. AreBelow under t (paths_of files)) (sym one.paths.1) one.paths.2 in
    let below' : AreBelow under told (paths_of others) = subst (λ t. AreBelow under t (paths_of others)) (sym two.paths.1) two.paths.2 in
    same_files told files others (one_order under told (paths_of files) (paths_of others) below below') one.bytes two.bytes

-- the paths in their order, each put before the first one that needn't come before it
abbrev put_in : List ℕ → List (List ℕ) → List (List ℕ)
put_in path [] = path ∷ []
put_in path (next ∷ paths) = if comes_first next path then next ∷ put_in path paths else path ∷ next ∷ paths

abbrev sorted : List (List ℕ) → List (List ℕ)
sorted [] = []
sorted (path ∷ paths) = put_in path (sorted paths)

one_way : (path other : List ℕ) → comes_first path other ≡ true → comes_first other path ≡ false
one_way path other h = (ranks_by nat_list_cmp_total (λ (p : List ℕ). p)).one_way path other h

-- no path comes before the one that it follows
abbrev InOrder : List (List ℕ) → Type 0
InOrder [] = ⊤
InOrder (path ∷ []) = ⊤
InOrder (path ∷ next ∷ paths) = (comes_first next path ≡ false) × InOrder (next ∷ paths)

put_after : (low path : List ℕ) (paths : List (List ℕ)) → comes_first path low ≡ false → InOrder (low ∷ paths) → InOrder (low ∷ put_in path paths)
put_after low path [] h up = (h, tt)
put_after low path (next ∷ paths) h up =
    let go : (b : Bool) → comes_first next path ≡ b → InOrder (low ∷ (if b then next ∷ put_in path paths else path ∷ next ∷ paths)) =
    λ b. elim b as (λ b. comes_first next path ≡ b → InOrder (low ∷ (if b then next ∷ put_in path paths else path ∷ next ∷ paths))) [
      | true ↦ λ k. (up.0, put_after next path paths (one_way next path k) up.1)
      | false ↦ λ k. (h, (k, up.1))
    ] in
    go (comes_first next path) refl

put_first : (path : List ℕ) (paths : List (List ℕ)) → InOrder paths → InOrder (put_in path paths)
put_first path [] up = tt
put_first path (next ∷ paths) up =
    let go : (b : Bool) → comes_first next path ≡ b → InOrder (if b then next ∷ put_in path paths else path ∷ next ∷ paths) =
    λ b. elim b as (λ b. comes_first next path ≡ b → InOrder (if b then next ∷ put_in path paths else path ∷ next ∷ paths)) [
      | true ↦ λ k. put_after next path paths (one_way next path k) up
      | false ↦ λ k. (k, up)
    ] in
    go (comes_first next path) refl

sorted_up : (paths : List (List ℕ)) → InOrder (sorted paths)
sorted_up [] = tt
sorted_up (path ∷ paths) = put_first path (sorted paths) (sorted_up paths)

by_places : (paths : List (List ℕ)) → InOrder paths → (k : ℕ) (d : List ℕ) → k + 1 < length paths → comes_first (get_or paths (k + 1) d) (get_or paths k d) ≡ false
by_places [] up k d below = absurd (omega (arith, below))
by_places (path ∷ []) up k d below = absurd (omega (arith, below))
by_places (path ∷ next ∷ paths) up zero d below = up.0
by_places (path ∷ next ∷ paths) up (suc k) d below =
    let further : suc k + 1 ≡ suc (k + 1) = omega arith in
    let rest = by_places (next ∷ paths) up.1 k d (omega (arith, below)) in
    subst (λ (n : ℕ). comes_first (get_or (path ∷ next ∷ paths) n d) (get_or (next ∷ paths) k d) ≡ false) (sym further) rest

put_permutes : (path : List ℕ) (paths : List (List ℕ)) → IsPermutation (path ∷ paths) (put_in path paths)
put_permutes path [] = IsPermutation-refl (path ∷ [])
put_permutes path (next ∷ paths) =
    let go : (b : Bool) → IsPermutation (path ∷ next ∷ paths) (if b then next ∷ put_in path paths else path ∷ next ∷ paths) =
    λ b. elim b as (λ b. IsPermutation (path ∷ next ∷ paths) (if b then next ∷ put_in path paths else path ∷ next ∷ paths)) [
      | true ↦ IsPermutation-trans _ _ _ (IsPermutation-middle (path ∷ []) next paths) (IsPermutation-cons next (path ∷ paths) (put_in path paths) (put_permutes path paths))
      | false ↦ IsPermutation-refl (path ∷ next ∷ paths)
    ] in
    go (comes_first next path)

sorted_permutes : (paths : List (List ℕ)) → IsPermutation paths (sorted paths)
sorted_permutes [] = IsPermutation-refl []
sorted_permutes (path ∷ paths) = IsPermutation-trans _ _ _ (IsPermutation-cons path paths (sorted paths) (sorted_permutes paths)) (put_permutes path (sorted paths))

abbrev listed : List ℕ → Files → List (List ℕ)
listed under told = sorted (paths_below under told)

are_listed : (under : List ℕ) (told : Files) → AreBelow under told (listed under told)
are_listed under told = record {
  all = sorted_permutes (paths_below under told);
  order = λ k d low below. by_places (listed under told) (sorted_up (paths_below under told)) k d below;
}

abbrev file_at : Files → List ℕ → List ℕ × List ℕ
file_at told path = (path, bytes_at path told)

named_so : (told : Files) (paths : List (List ℕ)) → paths_of (map (file_at told) paths) ≡ paths
named_so told [] = refl
named_so told (path ∷ paths) = ap (λ others. path ∷ others) (named_so told paths)

read_so : (told : Files) (paths : List (List ℕ)) → AllByRecursion (ReadsAs (Some told)) (map (file_at told) paths)
read_so told [] = tt
read_so told (path ∷ paths) = (refl, read_so told paths)

pub a_listing : (held : Option Files) (under : List ℕ) → (files : Files) × AreListed held under files
a_listing None under = ([], record { paths = ([], tt, are_listed under []); bytes = All-nil (ReadsAs None) })
a_listing (Some told) under =
    let files = map (file_at told) (listed under told) in (
      files,
      record {
        paths = (told, refl, subst (AreBelow under told) (sym (named_so told (listed under told))) (are_listed under told));
        bytes = All-from_recursion (ReadsAs (Some told)) files (read_so told (listed under told));
      },
    )

pub the_listing : (told : Files) (under : List ℕ) → HasOneListing told under
the_listing told under = let found = a_listing (Some told) under in (found.0, found.1, λ others listed. one_listing told under found.0 others found.1 listed)

pub the_body : (told : Files) (under : List ℕ) (limit : ℕ) → HasOneBody told under limit
the_body told under limit =
    let found = the_listing told under in (
      body limit found.0,
      (found.0, found.1, refl),
      λ other given. sym given.2 ∙ ap (body limit) (found.2 given.0 given.1),
    )
