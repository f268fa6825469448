-- A write that is taken back.
use Rattle.std.specs.Prelude.{◌≡◌, List, [], ◌∷◌, ◌++◌, Option}
use Rattle.cluster_history.specs.History.{Start, empty, after_all, state}
use Rattle.cluster_history.specs.declared.slots.Slot.{Slot}
use Rattle.cluster_objects.specs.declared.objects.Write.{Write}
use Rattle.object_store.specs.Seen.{slot_seen}

-- This stood at the key of the last write before it, if anything did.
abbrev pub IsUndoneBy : Option Slot → List Write → Type 0
IsUndoneBy before writes = (earlier : List Write) × (w : Write) × (writes ≡ earlier ++ w ∷ []) × (before ≡ slot_seen (state (after_all (Start empty) earlier)) w.key)

-- the writes without the last one
abbrev pub TakesBack : List Write → List Write → Type 0
TakesBack old new = (w : Write) × (old ≡ new ++ w ∷ [])
