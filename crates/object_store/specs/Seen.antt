-- What a view shows at a key.
use Rattle.std.specs.Prelude.{Option}
use Rattle.std.specs.Map.{lookup}
use Rattle.std.specs.BTreeMap.{is_at}
use Rattle.cluster_objects.specs.Keys.{key_cmp}
use Rattle.cluster_objects.specs.declared.keys.Key.{Key}
use Rattle.cluster_history.specs.History.{Slots}
use Rattle.cluster_history.specs.declared.slots.Slot.{Slot}

-- the slot of a key among the slots of a view, if it is one of theirs
abbrev pub slot_seen : Slots → Key → Option Slot
slot_seen slots key = lookup (is_at (key_cmp key)) slots
