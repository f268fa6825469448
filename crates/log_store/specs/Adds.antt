-- What a write that is to be added leaves.
use Rattle.std.specs.Prelude.{◌≡◌, ◌⊎◌, ◌+◌, ◌∷◌, ◌++◌, [], ℕ, Bool, true, false, not, List, length, Option, Some, None, Result, Ok, Err}
use Rattle.cluster_objects.specs.declared.objects.Write.{Write}
use Rattle.cluster_file.specs.Files.{record_form}
use Rattle.cluster_file.specs.Writing.{HoldsWrites, piece}
use Rattle.log_file.specs.Log.{IsLog}
use Rattle.object_store.specs.declared.cluster.PutAnswer.{PutAnswer}
use Rattle.object_store.specs.declared.cluster.PutAnswer.TheVariants as put
use Rattle.object_store.specs.Puts.{Agrees, Puts, has_room, put_failed}
use Rattle.olm_disk.specs.Disk.{Pending}
use Rattle.olm_io.specs.Outside.{HasCause}
use Rattle.olm_io.specs.declared.traits.Outage.{Outage}
use Rattle.olm_io.specs.declared.traits.Outage.TheVariants as outage
use Rattle.log_store.specs.Store.{LogClusterState, fits, has_place, store_history}

-- the bytes that add a write behind this gate, or none where they have no place there
abbrev pub GivesPiece : ℕ → Write → Option (List ℕ) → Type 0
GivesPiece gate w (Some bytes) = (bytes ≡ piece w 0) × (record_form.fits w ≡ true) × (has_place gate (length bytes) ≡ true)
GivesPiece gate w None = has_place gate (length (piece w 0)) ≡ false

-- The kept writes and the file, by the answer. At a version the write is the last of both, and the last gate stands behind its piece. Else it isn't kept; where a call failed the file may have it all the same.
abbrev pub Adds : Bool → List ℕ → Pending → ℕ → List Write → Write → List Write → Result ℕ Outage → Type 0
Adds tells content pending gate old w new (Ok version) = (new ≡ old ++ w ∷ []) × (version ≡ length old + 1) × IsLog tells content pending (old ++ w ∷ []) (gate + length (piece w 0)) true
Adds tells content pending gate old w new (Err outage.Failed) = (new ≡ old) × (tells ≡ true → HoldsWrites content old ⊎ HoldsWrites content (old ++ w ∷ []))
Adds tells content pending gate old w new (Err outage.Memory) = (new ≡ old) × IsLog tells content pending old gate true

-- a conflict, or no room
abbrev pub is_refused : PutAnswer → Bool
is_refused (put.Done version) = false
is_refused (put.Conflict found) = true
is_refused put.Full = true
is_refused put.Failed = false
is_refused put.Memory = false

-- What a put answers and what it leaves of a store. The first three say of a disk whether it tells its content, what that is, and how often a call has failed.
pub record PutsOn {D : Type 0} (tells : D → Bool) (content : D → List ℕ) (faults : D → ℕ) (old : LogClusterState D) (w : Write) (new : LogClusterState D) (answer : PutAnswer) : Type 0 where
  pub puts : let h = store_history (tells old.disk) (content old.disk) old.writes in Puts (has_room (fits h w) old.limit h) h w (store_history (tells new.disk) (content new.disk) new.writes) answer
  pub told : tells new.disk ≡ tells old.disk
  pub limit : new.limit ≡ old.limit
  pub cause : HasCause (faults old.disk) (faults new.disk) (put_failed answer ≡ true)
  pub ready : new.ready ≡ not (put_failed answer)
  pub untouched : is_refused answer ≡ true → new ≡ old
  -- a failed call is none of a conflict, nor where there is no room
  pub tried : let h = store_history (tells old.disk) (content old.disk) old.writes in put_failed answer ≡ true → Agrees h w × (has_room (fits h w) old.limit h ≡ true)
