-- The files of a folder, as paths and bytes, and what is below a path.
use Rattle.std.specs.Prelude.{◌≡◌, ℕ, Bool, nat_eq, if◌then◌else◌, List, [], ◌∷◌, ◌++◌, codes, filter, map, ⊤, Option, None, Some}
use Rattle.std.specs.List.{starts_with, ends_with}
use Rattle.std.specs.List.Sorted.{IsPermutation, IsSorted}
use Rattle.std.specs.Ordering.{nat_cmp}
use Rattle.std.specs.Cmp.Lexicographic.{slice_cmp, pointwise}

-- The files are those that are told. Where none are told they may be any.
abbrev pub AreTold : Option (List (List ℕ × List ℕ)) → List (List ℕ × List ℕ) → Type 0
AreTold None files = ⊤
AreTold (Some told) files = told ≡ files

-- What a path below this one begins with: the path, and a slash where it ends with none.
abbrev pub folder_prefix : List ℕ → List ℕ
folder_prefix under = if ends_with nat_eq under (codes "/") then under else under ++ codes "/"

abbrev pub is_below : List ℕ → List ℕ → Bool
is_below under path = starts_with nat_eq path (folder_prefix under)

abbrev pub paths_below : List ℕ → List (List ℕ × List ℕ) → List (List ℕ)
paths_below under files = filter (is_below under) (map (λ file. file.0) files)

-- The paths below a folder, in the order of their bytes.
pub record AreBelow (under : List ℕ) (files : List (List ℕ × List ℕ)) (paths : List (List ℕ)) : Type 0 where
  pub all : IsPermutation (paths_below under files) paths
  pub order : IsSorted (slice_cmp nat_cmp) paths

-- The bytes of the first file of this path. A path that isn't there reads as no bytes.
abbrev pub bytes_at : List ℕ → List (List ℕ × List ℕ) → List ℕ
bytes_at path [] = []
bytes_at path (file ∷ files) = if pointwise nat_eq file.0 path then file.1 else bytes_at path files

-- A folder in memory: its files, the number of the next call, how often a call has failed, and the numbers of the calls that fail.
pub record MemFolderState : Type 0 where
  pub held : List (List ℕ × List ℕ)
  pub call : ℕ
  pub faults : ℕ
  pub fails : List ℕ
