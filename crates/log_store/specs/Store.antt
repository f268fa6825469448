-- A store over a file on a disk: its history, and which writes have place in the file.
use Rattle.std.specs.Prelude.{◌≡◌, ℕ, ◌+◌, ◌^◌, Bool, true, List, length, nat_le, None, if◌then◌else◌}
use Rattle.cluster_objects.specs.declared.objects.Write.{Write}
use Rattle.cluster_history.specs.History.{History, Start, After}
use Rattle.cluster_file.specs.Files.{damage_in, history_in}
use Rattle.cluster_file.specs.Writing.{history_after, piece}

-- The disk, the most writes that the store takes, the writes that are kept in memory, the place of the last gate behind them, and whether no call has failed since it was opened last.
pub record LogClusterState (D : Type 0) : Type 0 where
  pub disk : D
  pub limit : ℕ
  pub writes : List Write
  pub gate : ℕ
  pub ready : Bool

-- The history is what the file stands for where the disk tells its content, and else that of the kept writes.
abbrev pub store_history : Bool → List ℕ → List Write → History
store_history tells content writes = if tells then history_in content else history_after writes

-- Where the disk tells its content, the file isn't damaged.
abbrev pub IsWhole : Bool → List ℕ → Type 0
IsWhole tells content = tells ≡ true → damage_in content ≡ None

-- the place of the last gate in the file of a history: behind the header, and behind the piece of each write
abbrev pub gate_place : History → ℕ
gate_place (Start base) = 8
gate_place (After w h) = gate_place h + length (piece w 0)

-- So many bytes have place behind this gate: the file ends with them at 2^40 bytes at most.
abbrev pub has_place : ℕ → ℕ → Bool
has_place gate size = nat_le (gate + 1 + size) (2 ^ 40)

-- the file of the history has place for what the write adds to it
abbrev pub fits : History → Write → Bool
fits h w = has_place (gate_place h) (length (piece w 0))
