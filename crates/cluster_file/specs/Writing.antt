-- The bytes that hold these writes, as whoever writes them sees them.
use Rattle.std.specs.Prelude.{◌≡◌, ◌≢◌, ◌+◌, true, ℕ, List, [], ◌∷◌, ◌++◌, length, None}
use Rattle.std.specs.List.{flat_map, list_all}
use Rattle.cluster_objects.specs.declared.objects.Write.{Write}
use Rattle.cluster_history.specs.History.{History, Start, IsHistory, after_all, empty}
use Rattle.cluster_file.specs.Files.{header, record_form, next_record}

-- a record behind an open gate
abbrev pub open_record : Write → List ℕ
open_record w = 1 ∷ record_form.spell w

unfoldable pub records : List Write → List ℕ
records ws = flat_map open_record ws

-- what is written behind the last gate: a record, and the next gate
abbrev pub piece : Write → ℕ → List ℕ
piece w gate = record_form.spell w ++ gate ∷ []

-- the file of the empty history
abbrev pub empty_file : List ℕ
empty_file = header ++ 0 ∷ []

-- The file holds exactly these writes: their records behind open gates, and then a gate that isn't open, whatever follows it.
pub record HoldsWrites (bytes : List ℕ) (ws : List Write) : Type 0 where
  pub gate : ℕ
  pub rest : List ℕ
  pub closed : gate ≢ 1
  pub whole : bytes ≡ header ++ records ws ++ gate ∷ rest

-- the place of the last gate behind these writes
unfoldable pub place_after : List Write → ℕ
place_after ws = 8 + length (records ws)

-- the history of these writes
abbrev pub history_after : List Write → History
history_after ws = after_all (Start empty) ws

-- Writes that a file can hold: each has a spelling, and expects its key's version at that point.
pub record AreWrites (ws : List Write) : Type 0 where
  pub fit : list_all record_form.fits ws ≡ true
  pub agree : IsHistory (history_after ws)

-- The gate behind these writes is open, and no next record stands there.
pub record IsDamagedAfter (bytes : List ℕ) (ws : List Write) : Type 0 where
  pub behind : List ℕ
  pub whole : bytes ≡ header ++ records ws ++ 1 ∷ behind
  pub none : next_record (history_after ws) behind ≡ None
