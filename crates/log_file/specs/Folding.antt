-- What reading a file's bytes leaves in the store.
use Rattle.std.specs.Prelude.{◌≡◌, ◌≤◌, ◌+◌, ◌-◌, ◌∷◌, ◌++◌, [], ℕ, suc, List, length, Option, Some, None, Result, Ok, Err}
use Rattle.std.specs.Borrow.{Bor}
use Rattle.cluster_objects.specs.declared.objects.Write.{Write}
use Rattle.cluster_file.specs.Files.{Standing, Stands, Damaged, standing_from}
use Rattle.cluster_file.specs.Writing.{history_after}
use Rattle.object_store.specs.declared.cluster.ClusterFault.{ClusterFault}
use Rattle.object_store.specs.declared.cluster.ClusterFault.TheVariants as fault
use Rattle.olm_base.specs.declared.memory.Memory.{Memory}

-- The write that is wanted was added, and the bytes behind its record are left; or there is none.
abbrev pub AddsNext : Option (Write × List ℕ) → ℕ × List Write → ℕ × List Write → Result (Option (Bor (List ℕ))) Memory → Type 0
AddsNext wanted old new (Ok None) = (wanted ≡ None) × (new ≡ old)
AddsNext wanted old new (Ok (Some rest)) = (w : Write) × (wanted ≡ Some (w, rest.now)) × (new ≡ (old.0, old.1 ++ w ∷ []))
AddsNext wanted old new (Err e) = new ≡ old

-- At a gate the reading ends, or goes on behind one record more, or finds damage.
abbrev pub Turns : ℕ → ℕ → List Write → List ℕ → List Write → Result (Option (Bor (List ℕ))) ClusterFault → Type 0
Turns bound place old bytes new (Ok None) = (standing_from (suc bound) (history_after old) place bytes ≡ Stands (history_after old) place) × (new ≡ old)
Turns bound place old bytes new (Ok (Some rest)) =
    (standing_from (suc bound) (history_after old) place bytes ≡ standing_from bound (history_after new) (place + (length bytes - length rest.now)) rest.now) × (length rest.now ≤ length bytes)
Turns bound place old bytes new (Err fault.Failed) = ⊥
Turns bound place old bytes new (Err (fault.Damaged at)) = standing_from (suc bound) (history_after old) place bytes ≡ Damaged at
Turns bound place old bytes new (Err fault.Memory) = Unit {0}

-- The bytes stand for the history of the writes that were read, with this place of the last gate, or they are damaged there.
abbrev pub Folds : Standing → List Write → Result ℕ ClusterFault → Type 0
Folds standing ws (Ok place) = standing ≡ Stands (history_after ws) place
Folds standing ws (Err fault.Failed) = ⊥
Folds standing ws (Err (fault.Damaged at)) = standing ≡ Damaged at
Folds standing ws (Err fault.Memory) = Unit {0}
