-- The file of a store's history on a disk.
use Rattle.std.specs.Prelude.{◌≡◌, ◌⊎◌, ◌<◌, ◌∷◌, ◌++◌, [], Bool, true, ℕ, List, length, Result, Ok, Err}
use Rattle.cluster_objects.specs.declared.objects.Write.{Write}
use Rattle.cluster_file.specs.Writing.{AreWrites, HoldsWrites, empty_file, place_after}
use Rattle.olm_disk.specs.Disk.{Pending, nothing_pending}
use Rattle.olm_io.specs.declared.traits.Outage.{Outage}
use Rattle.olm_io.specs.declared.traits.Outage.TheVariants as outage

-- The file holds these writes, and all of it is durable.
pub record IsSettled (content : List ℕ) (pending : Pending) (ws : List Write) : Type 0 where
  pub holds : HoldsWrites content ws
  pub durable : pending ≡ nothing_pending content

-- What holds of writes that were read from a file, and of the last gate's place: they are such as a file can hold, the place is the one behind them, and where the disk tells its content and no call has failed the file is settled with them.
pub record IsLog (tells : Bool) (content : List ℕ) (pending : Pending) (writes : List Write) (gate : ℕ) (ready : Bool) : Type 0 where
  pub are_writes : AreWrites writes
  pub place : gate ≡ place_after writes
  pub settled : tells ≡ true → ready ≡ true → IsSettled content pending writes

-- What the file holds after a record was written behind the last gate and the gate was opened, by the answer. Where a call failed the write stands or it doesn't.
abbrev pub AddsRecord : List ℕ → Pending → List Write → Write → Result Unit Outage → Type 0
AddsRecord content pending ws w (Ok done) = IsSettled content pending (ws ++ w ∷ [])
AddsRecord content pending ws w (Err outage.Failed) = HoldsWrites content ws ⊎ HoldsWrites content (ws ++ w ∷ [])
AddsRecord content pending ws w (Err outage.Memory) = IsSettled content pending ws

-- The file is that of the empty history or has more than nine bytes, and all of it is durable.
pub record HasBegun (content : List ℕ) (pending : Pending) : Type 0 where
  pub size : (9 < length content) ⊎ (content ≡ empty_file)
  pub durable : pending ≡ nothing_pending content
