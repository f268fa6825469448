-- The history of a store that is opened.
use Rattle.std.proofs.Common.{◌≡◌, ℕ, List, Bool, true, false, Option, None, ap}
use Rattle.cluster_objects.specs.declared.objects.Write.{Write}
use Rattle.cluster_history.specs.History.{IsHistory}
use Rattle.cluster_file.specs.Files.{damage_in, damage_of}
use Rattle.cluster_file.specs.Writing.{AreWrites}
use Rattle.cluster_file.proofs.Standing.{is_history, written}
use Rattle.log_file.specs.Log.{IsLog}
use Rattle.olm_disk.specs.Disk.{Pending}
use Rattle.log_store.specs.Store.{store_history}

-- the history of writes that a file can hold is one, and so is whatever a file stands for
pub always_history : (tells : Bool) (content : List ℕ) (ws : List Write) → AreWrites ws → IsHistory (store_history tells content ws)
always_history true content ws are = is_history content
always_history false content ws are = are.agree

-- the file of a store that is ready is not damaged
pub sound_log : (tells : Bool) (content : List ℕ) (pending : Pending) (ws : List Write) (gate : ℕ) (ready : Bool) → IsLog tells content pending ws gate ready → tells ≡ true → ready ≡ true → damage_in content ≡ None
sound_log tells content pending ws gate ready log told is = ap damage_of (written content ws log.are_writes (log.settled told is).holds)
