-- What the files of a folder give together: the text of a catalog.
use Rattle.std.specs.Prelude.{◌≡◌, ⊤, ℕ, Bool, true, false, ◌||◌, nat_eq, nat_le, if◌then◌else◌, List, [], ◌∷◌, ◌++◌, All, codes, length, map, filter, filter_map, find, flat_map, Option, None, Some, option_map, Result, Ok, Err}
use Rattle.std.specs.List.{ends_with}
use Rattle.std.specs.Cmp.Lexicographic.{pointwise}
use Rattle.catalog_stream.specs.Stream.{blobs}
use Rattle.catalog_stream.specs.declared.blobs.StreamFault.{StreamFault}
use Rattle.olm_folder.specs.Files.{AreTold, AreBelow, bytes_at}
use Rattle.olm_io.specs.declared.traits.FolderFault.{FolderFault}
use Rattle.olm_io.specs.declared.traits.FolderFault.TheVariants as folder
use Rattle.fbc_read.specs.declared.bodies.BodyFault.{BodyFault}
use Rattle.fbc_read.specs.declared.bodies.BodyFault.TheVariants.{Folder, Yaml, Split, Memory}

-- the most bytes of one catalog
abbrev pub input_limit : ℕ
input_limit = 67108864

-- A call of the folder that failed, and want of memory, may come at any time.
abbrev pub is_free : BodyFault → Bool
is_free (Folder folder.Failed) = true
is_free (Folder (folder.TooLong limit)) = false
is_free (Folder folder.Memory) = false
is_free (Yaml path) = false
is_free (Split path fault) = false
is_free Memory = true

-- the path's last part is `.indexignore`
abbrev pub is_ignore : List ℕ → Bool
is_ignore path = pointwise nat_eq path (codes ".indexignore") || ends_with nat_eq path (codes "/.indexignore")

-- a file of this path would say something of the catalog that isn't read
abbrev pub is_refused : List ℕ → Bool
is_refused path = ends_with nat_eq path (codes ".yaml") || ends_with nat_eq path (codes ".yml") || is_ignore path

-- a file of this path is read
abbrev pub is_json : List ℕ → Bool
is_json path = ends_with nat_eq path (codes ".json")

abbrev pub json_files : List (List ℕ × List ℕ) → List (List ℕ × List ℕ)
json_files files = filter (λ file. is_json file.0) files

-- the bytes of files, with an LF behind each
abbrev pub lines : List (List ℕ × List ℕ) → List ℕ
lines files = flat_map (λ file. file.1 ++ 10 ∷ []) files

-- the path of a file that by itself is no stream of blobs, and why it is none
abbrev pub split_of : List ℕ × List ℕ → Option (List ℕ × StreamFault)
split_of file = option_map (λ fault. (file.0, fault)) (blobs file.1).fault

abbrev pub first_of : {T : Type 0} → List T → Option T
first_of [] = None
first_of (item ∷ items) = Some item

abbrev pub first_split : List (List ℕ × List ℕ) → Option (List ℕ × StreamFault)
first_split files = first_of (filter_map split_of files)

abbrev pub unless_split : Option (List ℕ × StreamFault) → List ℕ → Result (List ℕ) BodyFault
unless_split None text = Ok text
unless_split (Some found) text = Err (Split found.0 found.1)

-- The files' lines, if they are at most `limit` bytes and each file is a stream.
abbrev pub joined : ℕ → List (List ℕ × List ℕ) → Result (List ℕ) BodyFault
joined limit files = if nat_le (length (lines files)) limit then unless_split (first_split files) (lines files) else Err (Folder (folder.TooLong limit))

-- the files, if their lines are at most `limit` bytes
abbrev pub within : ℕ → List (List ℕ × List ℕ) → Result (List (List ℕ × List ℕ)) FolderFault
within limit files = if nat_le (length (lines files)) limit then Ok files else Err (folder.TooLong limit)

-- want of memory is the same wherever it comes from
abbrev pub folder_fault : FolderFault → BodyFault
folder_fault folder.Failed = Folder folder.Failed
folder_fault (folder.TooLong limit) = Folder (folder.TooLong limit)
folder_fault folder.Memory = Memory

abbrev pub unless_refused : Option (List ℕ) → Result (List ℕ) BodyFault → Result (List ℕ) BodyFault
unless_refused None answer = answer
unless_refused (Some path) answer = Err (Yaml path)

-- What files, as paths and bytes, give in the order in which they stand: the first path that is refused; or else the lines of the files in JSON.
abbrev pub body : ℕ → List (List ℕ × List ℕ) → Result (List ℕ) BodyFault
body limit files = unless_refused (find is_refused (map (λ file. file.0) files)) (joined limit (json_files files))

-- The file reads as these bytes, where the folder tells.
abbrev pub ReadsAs : Option (List (List ℕ × List ℕ)) → List ℕ × List ℕ → Type 0
ReadsAs None file = ⊤
ReadsAs (Some told) file = bytes_at file.0 told ≡ file.1

-- The paths below a folder in the order of their bytes, where the folder tells those of the files that it holds.
abbrev pub ArePaths : Option (List (List ℕ × List ℕ)) → List ℕ → List (List ℕ) → Type 0
ArePaths held under paths = (told : List (List ℕ × List ℕ)) × AreTold held told × AreBelow under told paths

-- The files below a folder in the order of their paths, each with the bytes that it reads as.
pub record AreListed (held : Option (List (List ℕ × List ℕ))) (under : List ℕ) (files : List (List ℕ × List ℕ)) : Type 0 where
  pub paths : ArePaths held under (map (λ file. file.0) files)
  pub bytes : All (ReadsAs held) files

-- What some files give that the folder may hold below this path.
abbrev pub IsBody : Option (List (List ℕ × List ℕ)) → List ℕ → ℕ → Result (List ℕ) BodyFault → Type 0
IsBody held under limit wanted = (files : List (List ℕ × List ℕ)) × AreListed held under files × (body limit files ≡ wanted)

-- An answer is such a body, free errors aside.
abbrev pub GivesBody : Option (List (List ℕ × List ℕ)) → List ℕ → ℕ → Result (List ℕ) BodyFault → Type 0
GivesBody held under limit (Ok text) = IsBody held under limit (Ok text)
GivesBody held under limit (Err fault) = is_free fault ≡ false → IsBody held under limit (Err fault)

-- A folder that tells what it holds has one list of files below a path.
abbrev pub HasOneListing : List (List ℕ × List ℕ) → List ℕ → Type 0
HasOneListing told under =
    (files : List (List ℕ × List ℕ)) × AreListed (Some told) under files
    × ((others : List (List ℕ × List ℕ)) → AreListed (Some told) under others → others ≡ files)

-- So it gives one body under a limit.
abbrev pub HasOneBody : List (List ℕ × List ℕ) → List ℕ → ℕ → Type 0
HasOneBody told under limit =
    (wanted : Result (List ℕ) BodyFault) × IsBody (Some told) under limit wanted
    × ((other : Result (List ℕ) BodyFault) → IsBody (Some told) under limit other → other ≡ wanted)
