-- Files that are read one after another, each as the folder tells or as it may be.
use Rattle.std.proofs.Common.{◌≡◌, ◌≤◌, ◌<◌, ◌+◌, ℕ, Bool, true, false, List, [], ◌∷◌, ◌++◌, Option, None, Some, Result, Ok, Err, refl, sym, ap, subst, ◌∙◌, cond, length, map, filter, find, arith, length-append, append_assoc, append-nil, nat_le, drop, get_or, drop-cons, add-one, suc}
use Rattle.std.specs.List.{All}
use Rattle.std.proofs.lemmas.List.{map-append}
use Rattle.std.proofs.lemmas.List.Elements.{All-append, All-cons, All-nil, All-head, All-tail}
use Rattle.std.proofs.lemmas.Grind.{flat_map-append}
use Rattle.std.proofs.lemmas.Bool.Decides.{nat_tests}
use Rattle.olm_base.specs.Outcome.{Gives}
use Rattle.olm_folder.specs.Files.{AreTold, bytes_at}
use Rattle.olm_io.specs.ReadAll.{is_free, whole}
use Rattle.olm_io.specs.declared.traits.FolderFault.{FolderFault}
use Rattle.olm_io.specs.declared.traits.FolderFault.TheVariants.{Failed, TooLong, Memory}
use Rattle.fbc_read.specs.declared.bodies.BodyFault.{BodyFault}
use Rattle.fbc_read.specs.declared.bodies.BodyFault.TheVariants.{Folder, Yaml}
use Rattle.fbc_read.specs.Bodies.{ReadsAs, ArePaths, AreListed, GivesBody, lines, within, is_json, is_refused, json_files, joined, body, unless_split, unless_refused, first_split, folder_fault}
use Rattle.fbc_read.specs.Bodies.{is_free as body_free}

-- a path and bytes
abbrev pub Files : Type 0
Files = List (List ℕ × List ℕ)

abbrev pub paths_of : Files → List (List ℕ)
paths_of files = map (λ file. file.0) files

-- the files of the paths before `rest` were read, and so many of `limit` bytes are left
pub record HasRead (held : Option Files) (rest paths : List (List ℕ)) (limit left : ℕ) (files : Files) : Type 0 where
  pub named : paths_of files ++ rest ≡ paths
  pub bytes : All (ReadsAs held) files
  pub size : length (lines files) + left ≡ limit

-- the files before the next path were read
pub at_next : (held : Option Files) (paths : List (List ℕ)) (i : ℕ) (path : List ℕ) (limit left : ℕ) (files : Files) → i < length paths → path ≡ get_or paths i path → HasRead held (drop i paths) paths limit left files → HasRead held (path ∷ drop (i + 1) paths) paths limit left files
at_next held paths i path limit left files below is read =
    let next : drop i paths ≡ path ∷ drop (i + 1) paths = drop-cons paths i path below ∙ ap (λ found. found ∷ drop (suc i) paths) (sym is) ∙ ap (λ j. path ∷ drop j paths) (sym (add-one i)) in
    subst (λ rest. HasRead held rest paths limit left files) next read

pub reads_told : (held : Option Files) (told : Files) (path : List ℕ) → AreTold held told → ReadsAs held (path, bytes_at path told)
reads_told None told path h = tt
reads_told (Some files) told path h = ap (bytes_at path) h

-- any path reads as some bytes
pub some_bytes : (held : Option Files) (path : List ℕ) → (bytes : List ℕ) × ReadsAs held (path, bytes)
some_bytes None path = ([], tt)
some_bytes (Some told) path = (bytes_at path told, refl)

-- there are files of any paths
pub some_files : (held : Option Files) (paths : List (List ℕ)) → (files : Files) × (paths_of files ≡ paths) × All (ReadsAs held) files
some_files held [] = ([], refl, All-nil (ReadsAs held))
some_files held (path ∷ paths) =
    let first = some_bytes held path in
    let others = some_files held paths in
    ((path, first.0) ∷ others.0, ap (λ named. path ∷ named) others.1, All-cons (ReadsAs held) (path, first.0) others.0 first.1 others.2)

whole_ok : (limit : ℕ) (text bytes : List ℕ) → whole limit text ≡ Ok bytes → text ≡ bytes
whole_ok limit text bytes h = grind (arith, nat_tests)

whole_long : (limit limit' : ℕ) (text : List ℕ) → whole limit text ≡ Err (TooLong limit') → limit < length text
whole_long limit limit' text h = grind (arith, nat_tests)

too_many : (limit : ℕ) (files : Files) → limit < length (lines files) → within limit files ≡ Err (TooLong limit)
too_many limit files h = grind (arith, nat_tests)

has_room : (limit : ℕ) (files : Files) → length (lines files) ≤ limit → within limit files ≡ Ok files
has_room limit files h = grind (arith, nat_tests)

-- one more file
pub read_on : (held : Option Files) (path : List ℕ) (rest paths : List (List ℕ)) (limit left : ℕ) (files told : Files) (bytes : List ℕ) → HasRead held (path ∷ rest) paths limit left files → AreTold held told → whole left (bytes_at path told) ≡ Ok bytes → length bytes < left → (left' : ℕ) → left' + (length bytes + 1) ≡ left → HasRead held rest paths limit left' (files ++ (path, bytes) ∷ [])
read_on held path rest paths limit left files told bytes read tells given fits left' size =
    let reads : ReadsAs held (path, bytes) = subst (λ b. ReadsAs held (path, b)) (whole_ok left (bytes_at path told) bytes given) (reads_told held told path tells) in
    let last : length (lines ((path, bytes) ∷ [])) ≡ length bytes + 1 = omega (arith, length-append (bytes ++ 10 ∷ []) [], length-append bytes (10 ∷ [])) in
    record {
      named = ap (λ named. named ++ rest) (map-append (λ (file : List ℕ × List ℕ). file.0) files ((path, bytes) ∷ [])) ∙ append_assoc (paths_of files) (path ∷ []) rest ∙ read.named;
      bytes = All-append (ReadsAs held) files ((path, bytes) ∷ []) read.bytes (All-cons (ReadsAs held) (path, bytes) [] reads (All-nil (ReadsAs held)));
      size = omega (arith, read.size, size, last, ap length (flat_map-append (λ (file : List ℕ × List ℕ). file.1 ++ 10 ∷ []) files ((path, bytes) ∷ [])), length-append (lines files) (lines ((path, bytes) ∷ [])));
    }

-- The answer where a file has no room for itself and its LF, whatever the files behind it are.
pub cut_short : (held : Option Files) (path : List ℕ) (rest paths : List (List ℕ)) (limit left : ℕ) (files : Files) (text : List ℕ) → HasRead held (path ∷ rest) paths limit left files → ReadsAs held (path, text) → left ≤ length text → (all : Files) × (paths_of all ≡ paths) × All (ReadsAs held) all × (within limit all ≡ Err (TooLong limit))
cut_short held path rest paths limit left files text read reads long =
    let others = some_files held rest in
    let more = (path, text) ∷ others.0 in
    let all = files ++ more in
    let size : limit < length (lines all) =
    omega (arith, long, read.size, ap length (flat_map-append (λ (file : List ℕ × List ℕ). file.1 ++ 10 ∷ []) files more), length-append (lines files) (lines more), length-append (text ++ 10 ∷ []) (lines others.0), length-append text (10 ∷ [])) in (
      all,
      map-append (λ (file : List ℕ × List ℕ). file.0) files more ∙ ap (λ named. paths_of files ++ path ∷ named) others.1 ∙ read.named,
      All-append (ReadsAs held) files more read.bytes (All-cons (ReadsAs held) (path, text) others.0 reads others.2),
      too_many limit all size,
    )

pub too_long : (held : Option Files) (path : List ℕ) (rest paths : List (List ℕ)) (limit left left' : ℕ) (files told : Files) → HasRead held (path ∷ rest) paths limit left files → AreTold held told → whole left (bytes_at path told) ≡ Err (TooLong left') → (all : Files) × (paths_of all ≡ paths) × All (ReadsAs held) all × (within limit all ≡ Err (TooLong limit))
too_long held path rest paths limit left left' files told read tells given =
    let long = whole_long left left' (bytes_at path told) given in
    cut_short held path rest paths limit left files (bytes_at path told) read (reads_told held told path tells) (omega (arith, long))

pub no_room : (held : Option Files) (path : List ℕ) (rest paths : List (List ℕ)) (limit left : ℕ) (files told : Files) (bytes : List ℕ) → HasRead held (path ∷ rest) paths limit left files → AreTold held told → whole left (bytes_at path told) ≡ Ok bytes → left ≤ length bytes → (all : Files) × (paths_of all ≡ paths) × All (ReadsAs held) all × (within limit all ≡ Err (TooLong limit))
no_room held path rest paths limit left files told bytes read tells given long =
    let reads : ReadsAs held (path, bytes) = subst (λ b. ReadsAs held (path, b)) (whole_ok left (bytes_at path told) bytes given) (reads_told held told path tells) in
    cut_short held path rest paths limit left files bytes read reads long

-- all files were read, and their lines have room
pub all_read : (held : Option Files) (paths : List (List ℕ)) (limit left : ℕ) (files : Files) → HasRead held [] paths limit left files → (paths_of files ≡ paths) × All (ReadsAs held) files × (within limit files ≡ Ok files)
all_read held paths limit left files read =
    let fits : length (lines files) ≤ limit = omega (arith, read.size) in
    (sym (append-nil (paths_of files)) ∙ read.named, read.bytes, has_room limit files fits)

-- files of all paths, of which those in JSON are the ones that were read
abbrev pub Amid : Option Files → List (List ℕ) → Files → Type 0
Amid held paths read = (files : Files) × (paths_of files ≡ paths) × All (ReadsAs held) files × (json_files files ≡ read)

amid_first : (held : Option Files) (path : List ℕ) (paths : List (List ℕ)) → ((read : Files) → paths_of read ≡ filter is_json paths → All (ReadsAs held) read → Amid held paths read) → (is : Bool) → is_json path ≡ is → (read : Files) → paths_of read ≡ cond is (path ∷ filter is_json paths) (filter is_json paths) → All (ReadsAs held) read → Amid held (path ∷ paths) read
amid_first held path paths others true is [] named bytes = cc named
amid_first held path paths others true is (file ∷ read) named bytes =
    let same : file.0 ≡ path = cc named in
    let behind : paths_of read ≡ filter is_json paths = cc named in
    let more = others read behind (All-tail (ReadsAs held) file read bytes) in (
      file ∷ more.0,
      ap (λ named. file.0 ∷ named) more.1 ∙ ap (λ name. name ∷ paths) same,
      All-cons (ReadsAs held) file more.0 (All-head (ReadsAs held) file read bytes) more.2,
      ap (λ (test : Bool). cond test (file ∷ json_files more.0) (json_files more.0)) (ap is_json same ∙ is) ∙ ap (λ behind. file ∷ behind) more.3,
    )
amid_first held path paths others false is read named bytes =
    let any = some_bytes held path in
    let more = others read named bytes in (
      (path, any.0) ∷ more.0,
      ap (λ named. path ∷ named) more.1,
      All-cons (ReadsAs held) (path, any.0) more.0 any.1 more.2,
      ap (λ (test : Bool). cond test ((path, any.0) ∷ json_files more.0) (json_files more.0)) is ∙ more.3,
    )

pub amid_others : (held : Option Files) (paths : List (List ℕ)) (read : Files) → paths_of read ≡ filter is_json paths → All (ReadsAs held) read → Amid held paths read
amid_others held [] [] named bytes = ([], refl, All-nil (ReadsAs held), refl)
amid_others held [] (file ∷ read) named bytes = cc named
amid_others held (path ∷ paths) read named bytes = amid_first held path paths (amid_others held paths) (is_json path) refl read named bytes

joined_kept : (b : Bool) (limit : ℕ) (read kept : Files) → cond b (Ok read) (Err (TooLong limit)) ≡ Ok kept → cond b (unless_split (first_split read) (lines read)) (Err (Folder (TooLong limit))) ≡ unless_split (first_split kept) (lines kept)
joined_kept true limit read kept h =
    let same : read ≡ kept = cc h in
    ap (λ files. unless_split (first_split files) (lines files)) same
joined_kept false limit read kept h = cc h

joined_long : (b : Bool) (limit : ℕ) (read : Files) (fault : FolderFault) → cond b (Ok read) (Err (TooLong limit)) ≡ Err fault → cond b (unless_split (first_split read) (lines read)) (Err (Folder (TooLong limit))) ≡ Err (folder_fault fault)
joined_long true limit read fault h = cc h
joined_long false limit read fault h =
    let same : TooLong limit ≡ fault = cc h in
    ap (λ (found : FolderFault). Err (folder_fault found)) same

body_is : (limit : ℕ) (paths : List (List ℕ)) (read files : Files) → find is_refused paths ≡ None → paths_of files ≡ paths → json_files files ≡ read → body limit files ≡ joined limit read
body_is limit paths read files none named is =
    ap (λ (found : Option (List ℕ)). unless_refused found (joined limit (json_files files))) (ap (find is_refused) named ∙ none)
    ∙ ap (joined limit) is

-- The body of all files, where those in JSON were read.
pub body_read : (held : Option Files) (limit : ℕ) (paths jsons : List (List ℕ)) (read kept : Files) (answer : Result (List ℕ) BodyFault)
    → find is_refused paths ≡ None → jsons ≡ filter is_json paths → paths_of read ≡ jsons → All (ReadsAs held) read → within limit read ≡ Ok kept
    → Gives body_free (unless_split (first_split kept) (lines kept)) answer
    → (files : Files) × (paths_of files ≡ paths) × All (ReadsAs held) files × Gives body_free (body limit files) answer
body_read held limit paths jsons read kept answer none are named bytes whole given =
    let all = amid_others held paths read (named ∙ are) bytes in
    let same : body limit all.0 ≡ unless_split (first_split kept) (lines kept) =
    body_is limit paths read all.0 none all.1 all.3 ∙ joined_kept (nat_le (length (lines read)) limit) limit read kept whole in
    (all.0, all.1, all.2, subst (λ wanted. Gives body_free wanted answer) (sym same) given)

kept_free : (fault : FolderFault) → body_free (folder_fault fault) ≡ is_free fault
kept_free Failed = refl
kept_free (TooLong limit) = refl
kept_free Memory = refl

-- The same where they weren't.
pub body_unread : (held : Option Files) (limit : ℕ) (paths jsons : List (List ℕ)) (read : Files) (fault : FolderFault) (answer : BodyFault)
    → find is_refused paths ≡ None → jsons ≡ filter is_json paths → paths_of read ≡ jsons → All (ReadsAs held) read → (is_free fault ≡ false → within limit read ≡ Err fault)
    → answer ≡ folder_fault fault
    → (files : Files) × (paths_of files ≡ paths) × All (ReadsAs held) files × (body_free answer ≡ false → body limit files ≡ Err answer)
body_unread held limit paths jsons read fault answer none are named bytes given is =
    let all = amid_others held paths read (named ∙ are) bytes in (
      all.0,
      all.1,
      all.2,
      λ free.
          body_is limit paths read all.0 none all.1 all.3
          ∙ joined_long (nat_le (length (lines read)) limit) limit read fault (given (sym (kept_free fault) ∙ ap body_free (sym is) ∙ free))
          ∙ ap Err (sym is),
    )

-- The body of files, whatever they hold, where a path is refused.
pub body_refused : (held : Option Files) (limit : ℕ) (paths : List (List ℕ)) (path : List ℕ) → find is_refused paths ≡ Some path → (files : Files) × (paths_of files ≡ paths) × All (ReadsAs held) files × (body limit files ≡ Err (Yaml path))
body_refused held limit paths path found =
    let any = some_files held paths in
    (any.0, any.1, any.2, ap (λ (first : Option (List ℕ)). unless_refused first (joined limit (json_files any.0))) (ap (find is_refused) any.1 ∙ found))

-- Files of the paths below a folder are those that it may hold.
pub gives_body : (held now : Option Files) (under : List ℕ) (limit : ℕ) (paths : List (List ℕ)) (files : Files) (answer : Result (List ℕ) BodyFault) → now ≡ held → ArePaths held under paths → paths_of files ≡ paths → All (ReadsAs now) files → Gives body_free (body limit files) answer → GivesBody held under limit answer
gives_body held now under limit paths files answer same below named bytes given = by_answer answer given
  where
    listed : AreListed held under files
    listed = record {
      paths = subst (ArePaths held under) (sym named) below;
      bytes = subst (λ (told : Option Files). All (ReadsAs told) files) same bytes;
    }

    by_answer : (answer : Result (List ℕ) BodyFault) → Gives body_free (body limit files) answer → GivesBody held under limit answer
    by_answer (Ok text) given = (files, listed, given)
    by_answer (Err fault) given = λ free. (files, listed, given free)
