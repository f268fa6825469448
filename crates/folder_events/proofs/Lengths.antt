-- The text of a folder's files is within the limit.
use Rattle.std.proofs.Common.{◌≡◌, ◌≤◌, Bool, true, false, cond, ℕ, List, Option, Some, None, Result, Ok, Err, length, map, nat_le, refl, subst}
use Rattle.std.specs.Prelude.{find}
use Rattle.std.proofs.lemmas.Bool.{leb-true}
use Rattle.catalog_stream.specs.declared.blobs.StreamFault.{StreamFault}
use Rattle.object_bodies.proofs.Reading.{same_ok}
use Rattle.olm_io.specs.declared.traits.FolderFault.TheVariants as folder
use Rattle.fbc_read.specs.Bodies.{IsBody, first_split, is_refused, joined, json_files, lines, unless_refused, unless_split}
use Rattle.fbc_read.specs.declared.bodies.BodyFault.{BodyFault}
use Rattle.fbc_read.specs.declared.bodies.BodyFault.TheVariants.{Folder}

unrefused : (found : Option (List ℕ)) (given : Result (List ℕ) BodyFault) (text : List ℕ) → unless_refused found given ≡ Ok text → given ≡ Ok text
unrefused None given text e = e
unrefused (Some path) given text e = absurd cc

whole : (found : Option (List ℕ × StreamFault)) (given text : List ℕ) → unless_split found given ≡ Ok text → given ≡ text
whole None given text e = same_ok _ _ e
whole (Some split) given text e = absurd cc

joined_within : (limit : ℕ) (files : List (List ℕ × List ℕ)) (text : List ℕ) → joined limit files ≡ Ok text → length text ≤ limit
joined_within limit files text e = by (nat_le (length (lines files)) limit) refl e
  where
    by : (b : Bool) → nat_le (length (lines files)) limit ≡ b → cond {A = Result (List ℕ) BodyFault} b (unless_split (first_split files) (lines files)) (Err (Folder (folder.TooLong limit))) ≡ Ok text → length text ≤ limit
    by true is e = subst (λ (t : List ℕ). length t ≤ limit) (whole (first_split files) (lines files) text e) (leb-true _ _ is)
    by false is e = absurd cc

pub body_within : (held : Option (List (List ℕ × List ℕ))) (path : List ℕ) (limit : ℕ) (text : List ℕ) → IsBody held path limit (Ok text) → length text ≤ limit
body_within held path limit text (files, listed, is) =
    joined_within limit (json_files files) text (unrefused (find is_refused (map (λ (file : List ℕ × List ℕ). file.0) files)) (joined limit (json_files files)) text is)
