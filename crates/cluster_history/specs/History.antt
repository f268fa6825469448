-- A history is a base and the writes after it. Its state is the list of the slots in key order.
use Rattle.std.specs.Prelude.{◌≡◌, ◌≤◌, ◌<◌, ◌+◌, ◌-◌, ◌^◌, ℕ, zero, suc, Some, slice_get, List, [], ◌∷◌, ◌++◌, Option, None, if◌then◌else◌}
use Rattle.std.specs.Option.{unwrap_or}
use Rattle.std.specs.Map.{lookup, keys_of, values_of}
use Rattle.std.specs.List.Sorted.{IsStrictlySortedBy}
use Rattle.std.specs.BTreeMap.{insert_entry, is_at}
use Rattle.std.specs.List.{sum_by}
use Rattle.cluster_objects.specs.Keys.{key_cmp, same_key}
use Rattle.cluster_objects.specs.Stamps.{stamps_of, times}
use Rattle.cluster_objects.specs.declared.keys.Stamp.{Stamp}
use Rattle.cluster_objects.specs.declared.keys.Key.{Key}
use Rattle.cluster_objects.specs.declared.objects.Object.{Object}
use Rattle.cluster_objects.specs.declared.objects.Write.{Write}
use Rattle.cluster_history.specs.declared.slots.Slot.{Slot}
use Rattle.cluster_history.specs.declared.slots.Base.{Base}

abbrev pub Slots : Type 0
Slots = List (Key × Slot)

-- strictly by their keys
abbrev pub IsInOrder : Slots → Type 0
IsInOrder slots = IsStrictlySortedBy key_cmp (keys_of slots)

-- what a key has that was never written
abbrev pub never_written : Slot
never_written = record { version = 0; object = None; stamps = [] }

-- the slot of a key in a list of slots
abbrev pub slot_in : Slots → Key → Slot
slot_in slots key = unwrap_or (lookup (is_at (key_cmp key)) slots) never_written

-- A history is a base, which stands for the writes that were packed away, and the writes after it, the newest outside.
pub data History : Type 0 where
  Start : Base → History
  After : Write → History → History

-- the base with nothing in it
abbrev pub empty : Base
empty = record { length = 0; slots = [] }

-- What a base is: its slots are in strict order of their keys, and their versions are distinct numbers from 1 to its length.
pub record IsBase (base : Base) : Type 0 where
  pub length : base.length ≤ 2 ^ 62
  pub keys : IsInOrder base.slots
  pub versions : (i : ℕ) (e : Key × Slot) → slice_get base.slots i ≡ Some e → (0 < e.1.version) × (e.1.version ≤ base.length)
  pub distinct : (i j : ℕ) (d e : Key × Slot) → slice_get base.slots i ≡ Some d → slice_get base.slots j ≡ Some e → d.1.version ≡ e.1.version → i ≡ j

-- the base of a history
abbrev pub base_of : History → Base
base_of (Start base) = base
base_of (After w h) = base_of h

-- the history with these writes made one after the other, the first of them first
abbrev pub after_all : History → List Write → History
after_all h [] = h
after_all h (w ∷ ws) = after_all (After w h) ws

-- The length: how many writes there were, those before the base included. It is the position of the newest write.
abbrev pub position : History → ℕ
position (Start base) = base.length
position (After w h) = position h + 1

-- The slot after a write at this position: a removal leaves no object, but its version and the stamps so far.
abbrev pub after_write : Slot → ℕ → Write → Slot
after_write slot position w = record { version = position; object = w.object; stamps = slot.stamps ++ stamps_of w.object }

-- each write changes the slot of its key
unfoldable pub state : History → Slots
state (Start base) = base.slots
state (After w h) = insert_entry key_cmp (state h) w.key (after_write (slot_in (state h) w.key) (position h + 1) w)

unfoldable pub slot : History → Key → Slot
slot h key = slot_in (state h) key

-- each write expects its key's version at that point
abbrev pub IsHistory : History → Type 0
IsHistory (Start base) = Unit {0}
IsHistory (After w h) = (w.expect ≡ (slot h w.key).version) × IsHistory h

-- the history without its newest writes, so many of them
abbrev pub earlier : ℕ → History → History
earlier zero h = h
earlier (suc n) (Start base) = Start base
earlier (suc n) (After w h) = earlier n h

-- the history when it had this length
abbrev pub first_writes : ℕ → History → History
first_writes a h = earlier (position h - a) h

-- the position of the last write of a key, and 0 where there was none
abbrev pub last_position : History → Key → ℕ
last_position (Start base) key = (slot_in base.slots key).version
last_position (After w h) key = if same_key w.key key then position h + 1 else last_position h key

-- the object that the last write of a key left there
abbrev pub last_object : History → Key → Option Object
last_object (Start base) key = (slot_in base.slots key).object
last_object (After w h) key = if same_key w.key key then w.object else last_object h key

-- the stamps of all writes of a key, in order
abbrev pub all_stamps : History → Key → List Stamp
all_stamps (Start base) key = (slot_in base.slots key).stamps
all_stamps (After w h) key = if same_key w.key key then all_stamps h key ++ stamps_of w.object else all_stamps h key

-- how often a stamp stands in all slots together
abbrev pub times_in : Stamp → Slots → ℕ
times_in stamp slots = sum_by (λ there. times stamp there.stamps) (values_of slots)

-- how often a stamp is carried: by how many writes, those before the base included
unfoldable pub carried : Stamp → History → ℕ
carried stamp (Start base) = times_in stamp base.slots
carried stamp (After w h) = times stamp (stamps_of w.object) + carried stamp h
