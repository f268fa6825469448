-- A disk in memory at each moment of its clock, and the images of a crash.
use Rattle.std.specs.Prelude.{◌≡◌, ◌≤◌, ◌<◌, ℕ, List, Bool, true, false, Option, None, Some, length, nat_le, slice_index, if◌then◌else◌}
use Rattle.std.proofs.Common.{subst, le_refl, le_antisymm}
use Rattle.std.specs.List.{take_while, list_all}
use Rattle.olm_io.specs.Outside.{one_more}
use Rattle.olm_disk.specs.Disk.{MayLeave, is_in}
use Rattle.olm_disk.specs.Kept.{Kept, begun, kept_after}
use Rattle.olm_disk.specs.declared.change.Stage.{Stage}
use Rattle.olm_disk.specs.declared.keep.Keep.{Keep}
use Rattle.olm_disk.specs.declared.keep.Keep.TheVariants.{Old, New, Junk}

-- The content at first, the changes since, each with the moment that it began, the clock, the number of the next call, how often a call has failed, and the numbers of the calls that fail.
pub record MemDiskState : Type 0 where
  pub start : List ℕ
  pub stages : List Stage
  pub clock : ℕ
  pub call : ℕ
  pub faults : ℕ
  pub fails : List ℕ

-- the stage began at that moment or before it
abbrev pub began_by : ℕ → Stage → Bool
began_by moment stage = nat_le stage.first moment

-- what the disk holds at that moment: the content at first after the changes up to then
abbrev pub kept_at : MemDiskState → ℕ → Kept
kept_at disk moment = kept_after disk.start (take_while (began_by moment) disk.stages)

abbrev pub kept_now : MemDiskState → Kept
kept_now disk = kept_at disk disk.clock

-- A call took the disk to its next moment, at which it holds this. The earlier moments are as they were.
pub record Steps (old new : MemDiskState) (kept : Kept) : Type 0 where
  pub later : old.clock ≤ new.clock
  pub clock : new.clock ≡ one_more old.clock
  pub now : kept_now new ≡ kept
  pub before : (moment : ℕ) → moment < new.clock → kept_at new moment ≡ kept_at old moment

-- A crash at some moment from that one to the present one might have left this.
abbrev pub MightHaveLeft : MemDiskState → ℕ → List ℕ → Type 0
MightHaveLeft disk t image = (moment : ℕ) × (t ≤ moment) × (moment ≤ disk.clock) × MayLeave (kept_at disk moment).content (kept_at disk moment).pending image

-- the present moment is one of those since an earlier one
pub present_counts : (disk : MemDiskState) (t : ℕ) (image : List ℕ) → t ≤ disk.clock → MayLeave (kept_now disk).content (kept_now disk).pending image → MightHaveLeft disk t image
present_counts disk t image earlier may = (disk.clock, earlier, le_refl disk.clock, may)

-- since the present moment there is no other
pub only_present : (disk : MemDiskState) (image : List ℕ) → MightHaveLeft disk disk.clock image → MayLeave (kept_now disk).content (kept_now disk).pending image
only_present disk image left = subst (λ moment. MayLeave (kept_at disk moment).content (kept_at disk moment).pending image) (le_antisymm left.2 left.1) left.3

-- the content with this byte at each place of the ranges
pub record IsJunk (byte : ℕ) (ranges : List (ℕ × ℕ)) (content image : List ℕ) : Type 0 where
  pub size : length image ≡ length content
  pub places : (place : ℕ) → place < length content → slice_index image place ≡ (if is_in ranges place then byte else slice_index content place)

-- what the last sync that succeeded left, what a read gives, or that with junk in what was written since
abbrev pub IsImage : Keep → Kept → List ℕ → Type 0
IsImage Old kept image = image ≡ kept.durable
IsImage New kept image = image ≡ kept.content
IsImage (Junk byte) kept image = IsJunk byte kept.pending.ranges kept.content image

-- the content at first: the copy that was kept of it, or the present one where nothing has changed it
abbrev pub first_content : Option (List ℕ) → List ℕ → List ℕ
first_content None content = content
first_content (Some start) content = start

-- What holds of the parts of a disk in memory: the content is the one after all stages, none of which began later than now; where it is settled all of it is durable; and else there is room for what the next sync notes.
pub record IsMemDisk (start : Option (List ℕ)) (content : List ℕ) (stages : List Stage) (room clock : ℕ) (settled : Bool) : Type 0 where
  pub content_is : content ≡ (kept_after (first_content start content) stages).content
  pub begun_by_now : list_all (began_by clock) stages ≡ true
  pub all_durable : settled ≡ true → kept_after (first_content start content) stages ≡ begun content
  pub has_room : settled ≡ false → length stages < room

-- A call that succeeded is counted, and one that failed is counted as a fault too.
abbrev pub Called : MemDiskState → MemDiskState → Type 0
Called old new = (new.call ≡ one_more old.call) × (new.faults ≡ old.faults) × (new.fails ≡ old.fails)

abbrev pub Missed : MemDiskState → MemDiskState → Type 0
Missed old new = (new.call ≡ one_more old.call) × (new.faults ≡ one_more old.faults) × (new.fails ≡ old.fails)
