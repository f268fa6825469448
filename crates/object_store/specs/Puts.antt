-- What a store answers, and what it leaves.
use Rattle.std.specs.Prelude.{◌≡◌, ◌≢◌, ◌⊎◌, ◌&&◌, nat_lt, Bool, true, false, ℕ, List, Option, Some, None, Result, Ok, Err}
use Rattle.cluster_history.specs.History.{History, After, position, slot}
use Rattle.cluster_history.specs.Views as views
use Rattle.cluster_objects.specs.declared.objects.Write.{Write}
use Rattle.object_store.specs.declared.cluster.PutAnswer.{PutAnswer}
use Rattle.object_store.specs.declared.cluster.PutAnswer.TheVariants as put
use Rattle.object_store.specs.declared.cluster.ClusterFault.{ClusterFault}
use Rattle.object_store.specs.declared.cluster.ClusterFault.TheVariants as fault

-- the write's key has the version that the write expects
abbrev pub Agrees : History → Write → Type 0
Agrees h w = w.expect ≡ (slot h w.key).version

-- There is room for a write where it fits into what holds the history, and the history is below the limit.
abbrev pub has_room : Bool → ℕ → History → Bool
has_room fits limit h = fits && nat_lt (position h) limit

-- The history before, the write and the history afterwards, by the answer. The test says whether there is room for the write.
abbrev pub Puts : Bool → History → Write → History → PutAnswer → Type 0
Puts has_room h w new (put.Done version) = Agrees h w × (has_room ≡ true) × (new ≡ After w h) × (version ≡ position new)
Puts has_room h w new (put.Conflict found) = (found ≡ (slot h w.key).version) × (w.expect ≢ found) × (new ≡ h)
Puts has_room h w new put.Full = Agrees h w × (has_room ≡ false) × (new ≡ h)
Puts has_room h w new put.Failed = (new ≡ h) ⊎ (Agrees h w × (has_room ≡ true) × (new ≡ After w h))
Puts has_room h w new put.Memory = new ≡ h

abbrev pub put_failed : PutAnswer → Bool
put_failed put.Failed = true
put_failed a = false

abbrev pub fault_failed : {T : Type 0} → Result T ClusterFault → Bool
fault_failed (Ok x) = false
fault_failed (Err fault.Failed) = true
fault_failed (Err e) = false

-- the namespace's view of the whole history; a snapshot never finds damage
abbrev pub Snapshots : History → List ℕ → Result views.View ClusterFault → Type 0
Snapshots h namespace (Ok v) = v ≡ views.view h namespace (position h)
Snapshots h namespace (Err fault.Failed) = Unit {0}
Snapshots h namespace (Err (fault.Damaged at)) = ⊥
Snapshots h namespace (Err fault.Memory) = Unit {0}

-- damage is told with its place exactly where there is some
abbrev pub Reopens : {T : Type 0} → Option ℕ → Result T ClusterFault → Type 0
Reopens damage (Ok x) = damage ≡ None
Reopens damage (Err fault.Failed) = Unit {0}
Reopens damage (Err (fault.Damaged at)) = damage ≡ Some at
Reopens damage (Err fault.Memory) = Unit {0}

-- Whether a store tells what its file holds, and the place of the damage: what it holds stands for a history.
abbrev pub IsSound : Bool → Option ℕ → Type 0
IsSound tells damage = tells ≡ true → damage ≡ None
