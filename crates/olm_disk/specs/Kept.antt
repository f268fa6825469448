-- What a disk holds after some changes.
use Rattle.std.specs.Prelude.{ℕ, ◌+◌, List, length, take, Bool, true, false, nat_le, nat_lt, ◌&&◌}
use Rattle.std.specs.List.{fold, list_any}
use Rattle.olm_disk.specs.Disk.{Pending, nothing_pending, pending_write, pending_cut, written}
use Rattle.olm_disk.specs.declared.change.Change.{Change}
use Rattle.olm_disk.specs.declared.change.Change.TheVariants.{Wrote, Cut, LostWrite, LostCut, Synced}
use Rattle.olm_disk.specs.declared.change.Stage.{Stage}

-- What a read gives, what is pending, and what the last sync that succeeded left.
pub record Kept : Type 0 where
  pub content : List ℕ
  pub pending : Pending
  pub durable : List ℕ

-- a disk with this content, all of it durable
abbrev pub begun : List ℕ → Kept
begun content = record { content = content; pending = nothing_pending content; durable = content }

-- A write or a cut changes the content, a failed one nothing of it. Both are pending until a sync that succeeds.
abbrev pub after : Kept → Change → Kept
after kept (Wrote at bytes) = record { content = written at bytes kept.content; pending = pending_write at (length bytes) kept.pending; durable = kept.durable }
after kept (Cut len) = record { content = take len kept.content; pending = pending_cut len kept.pending; durable = kept.durable }
after kept (LostWrite at count) = record { content = kept.content; pending = pending_write at count kept.pending; durable = kept.durable }
after kept (LostCut len) = record { content = kept.content; pending = pending_cut len kept.pending; durable = kept.durable }
after kept Synced = begun kept.content

-- after these stages, one after another
abbrev pub kept_after : List ℕ → List Stage → Kept
kept_after start stages = fold (λ kept stage. after kept stage.change) (begun start) stages

abbrev pub is_sync : Change → Bool
is_sync (Wrote at bytes) = false
is_sync (Cut len) = false
is_sync (LostWrite at count) = false
is_sync (LostCut len) = false
is_sync Synced = true

-- the change wrote at this place, or failed to
abbrev pub covers : ℕ → Change → Bool
covers place (Wrote at bytes) = nat_le at place && nat_lt place (at + length bytes)
covers place (Cut len) = false
covers place (LostWrite at count) = nat_le at place && nat_lt place (at + count)
covers place (LostCut len) = false
covers place Synced = false

-- one of the stages did
abbrev pub is_covered : ℕ → List Stage → Bool
is_covered place stages = list_any (λ stage. covers place stage.change) stages
