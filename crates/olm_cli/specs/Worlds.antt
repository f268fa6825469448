-- What lies outside a call, as far as that is told.
use Rattle.std.specs.Prelude.{◌≡◌, ℕ, Bool, true, List, [], Option}
use Rattle.cluster_file.specs.Files.{stands}
use Rattle.event_runs.specs.Runs.{Files}
use Rattle.file_commands.specs.Opens.{found_in}
use Rattle.olm_io.specs.Outside.{Appends}

-- The files of the folder, and what is left of the input, where they are told. Whether the disk tells what the cluster file holds, and what that is. What `out` holds, where that is told.
pub record World : Type 0 where
  pub files : Files
  pub left : Option (List ℕ)
  pub tells : Bool
  pub content : List ℕ
  pub out : Option (List ℕ)

abbrev pub world : Files → Option (List ℕ) → Bool → List ℕ → Option (List ℕ) → World
world files left tells content out = record { files = files; left = left; tells = tells; content = content; out = out }

-- The cluster file stands for what it did: the same history, or damage at the same place.
abbrev pub StandsStill : World → World → Type 0
StandsStill old new = old.tells ≡ true → found_in (stands new.content) ≡ found_in (stands old.content)

-- Nothing was put, and the file stands for what it did.
abbrev pub IsStill : World → World → Type 0
IsStill old new = Appends old.out new.out [] × StandsStill old new
