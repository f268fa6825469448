-- A store in memory of which some calls fail, and what a call leaves.
use Rattle.std.specs.Prelude.{◌≡◌, ◌&&◌, ◌==◌, not, nat_eq, nat_lt, if◌then◌else◌, Bool, true, false, ℕ, List, [], ◌∷◌, ◌++◌, Option, Some, None, Result, Ok, Err}
use Rattle.std.specs.Option.{is_some}
use Rattle.cluster_history.specs.History.{History, Start, empty, after_all, position, slot}
use Rattle.cluster_objects.specs.declared.objects.Write.{Write}
use Rattle.olm_io.specs.Outside.{one_more}
use Rattle.object_store.specs.declared.miss.Miss.{Miss}
use Rattle.object_store.specs.declared.cluster.PutAnswer.{PutAnswer}
use Rattle.object_store.specs.declared.cluster.PutAnswer.TheVariants as put
use Rattle.object_store.specs.declared.cluster.ClusterFault.{ClusterFault}
use Rattle.object_store.specs.declared.cluster.ClusterFault.TheVariants as fault

-- The limit, the writes from the first on, the number of the next call, how often a call has failed, the misses, and whether no call has failed since the store was opened last.
pub record MemClusterState : Type 0 where
  pub limit : ℕ
  pub writes : List Write
  pub call : ℕ
  pub faults : ℕ
  pub misses : List Miss
  pub ready : Bool

abbrev pub history_of : List Write → History
history_of writes = after_all (Start empty) writes

-- the first of the misses that is of this call
abbrev pub miss_of : List Miss → ℕ → Option Miss
miss_of [] call = None
miss_of (miss ∷ misses) call = if nat_eq miss.call call then Some miss else miss_of misses call

abbrev pub next_miss : MemClusterState → Option Miss
next_miss s = miss_of s.misses s.call

-- the next call fails
abbrev pub is_missed : MemClusterState → Bool
is_missed s = is_some (next_miss s)

-- a missed call that makes nothing
abbrev pub is_lost : Option Miss → Bool
is_lost None = false
is_lost (Some miss) = not miss.applied

-- the store after a call that was answered, and after one that failed
abbrev pub answered : MemClusterState → MemClusterState
answered s = record s { call = one_more s.call; ready = true }

abbrev pub missed : MemClusterState → MemClusterState
missed s = record s { call = one_more s.call; faults = one_more s.faults; ready = false }

-- the store with one write more
abbrev pub written : MemClusterState → Write → MemClusterState
written s w = record s { writes = s.writes ++ w ∷ [] }

-- Under this limit, the write has neither a conflict nor too little room after these writes.
abbrev pub takes : ℕ → List Write → Write → Bool
takes limit writes w = w.expect == (slot (history_of writes) w.key).version && nat_lt (position (history_of writes)) limit

-- The store after a snapshot or after it was opened again, by the answer: it failed exactly where the call was missed.
abbrev pub Calls : {T : Type 0} → MemClusterState → MemClusterState → Result T ClusterFault → Type 0
Calls old new (Ok x) = (is_missed old ≡ false) × (new ≡ answered old)
Calls old new (Err fault.Failed) = (is_missed old ≡ true) × (new ≡ missed old)
Calls old new (Err (fault.Damaged at)) = ⊥
Calls old new (Err fault.Memory) = (is_missed old ≡ false) × (new ≡ old)

-- The store after a put. A missed one fails, and is made where the miss says so and the store takes the write. Want of memory comes only where the write would be made.
abbrev pub CallsPut : MemClusterState → Write → MemClusterState → PutAnswer → Type 0
CallsPut old w new (put.Done version) = (next_miss old ≡ None) × (new ≡ answered (written old w))
CallsPut old w new (put.Conflict found) = (next_miss old ≡ None) × (new ≡ answered old)
CallsPut old w new put.Full = (next_miss old ≡ None) × (new ≡ answered old)
CallsPut old w new put.Failed = (miss : Miss) × (next_miss old ≡ Some miss) × (new ≡ missed (if miss.applied && takes old.limit old.writes w then written old w else old))
CallsPut old w new put.Memory = (is_lost (next_miss old) ≡ false) × (new ≡ old)

-- The limit and the writes of a store that never fails, after a put.
abbrev pub Stores : ℕ × List Write → Write → ℕ × List Write → PutAnswer → Type 0
Stores old w new (put.Done version) = (takes old.0 old.1 w ≡ true) × (new ≡ (old.0, old.1 ++ w ∷ []))
Stores old w new (put.Conflict found) = (takes old.0 old.1 w ≡ false) × (new ≡ old)
Stores old w new put.Full = (takes old.0 old.1 w ≡ false) × (new ≡ old)
Stores old w new put.Failed = ⊥
Stores old w new put.Memory = new ≡ old
