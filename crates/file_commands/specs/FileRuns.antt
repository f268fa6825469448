-- A run of events over a cluster's file.
use Rattle.std.specs.Prelude.{◌≡◌, Bool, true, false, ℕ, List, Option, Result, Ok, Err}
use Rattle.cluster_history.specs.History.{History}
use Rattle.event_script.specs.declared.events.Event.{Event}
use Rattle.event_runs.specs.Runs as runs
use Rattle.event_runs.specs.declared.halts.Halt.{Halt}
use Rattle.log_store.specs.Store.{fits}
use Rattle.object_store.specs.declared.TheConstants.{WRITE_LIMIT}
use Rattle.object_store.specs.declared.cluster.ClusterFault.{ClusterFault}
use Rattle.object_store.specs.declared.cluster.ClusterFault.TheVariants as opening
use Rattle.file_commands.specs.declared.faults.RunFault.{RunFault}
use Rattle.file_commands.specs.declared.faults.RunFault.TheVariants as fault

-- The history that the file stood for, the events, and the history that it stands for afterwards, with what the output held before and holds now, by how the run of the events ended.
abbrev pub RunsBetween : Bool → runs.Files → Result History ℕ → List Event → Result History ℕ → Option (List ℕ) → Option (List ℕ) → Result Unit Halt → Type 0
RunsBetween tells files found es left before now end =
    (h : History) × (new : History) × (found ≡ Ok h) × (left ≡ Ok new) × runs.Runs tells fits WRITE_LIMIT files h es new before now end

-- The same with what was found in the file and what is left in it. Where no store was opened nothing is put, and the file stands for what it stood for. However the events' run ends, the file stands for a history.
abbrev pub FileRuns : Bool → runs.Files → Result History ℕ → List Event → Result History ℕ → Option (List ℕ) → Option (List ℕ) → Result Unit RunFault → Type 0
FileRuns tells files found es left before now (Ok done) = RunsBetween tells files found es left before now (Ok done)
FileRuns tells files found es left before now (Err (fault.Damaged at)) = (found ≡ Err at) × (left ≡ found) × (now ≡ before)
FileRuns tells files found es left before now (Err fault.Failed) = (left ≡ found) × (now ≡ before)
FileRuns tells files found es left before now (Err fault.Memory) = (left ≡ found) × (now ≡ before)
FileRuns tells files found es left before now (Err (fault.Halted halt)) = RunsBetween tells files found es left before now (Err halt)

-- why no event was applied, where no store was opened
abbrev pub fault_of : ClusterFault → RunFault
fault_of opening.Failed = fault.Failed
fault_of (opening.Damaged at) = fault.Damaged at
fault_of opening.Memory = fault.Memory

-- the store was opened
abbrev pub was_opened : Result Unit RunFault → Bool
was_opened (Ok done) = true
was_opened (Err (fault.Damaged at)) = false
was_opened (Err fault.Failed) = false
was_opened (Err fault.Memory) = false
was_opened (Err (fault.Halted halt)) = true

-- a call of the disk, the folder or the output failed
abbrev pub disk_failed : Result Unit RunFault → Bool
disk_failed (Ok done) = false
disk_failed (Err (fault.Damaged at)) = false
disk_failed (Err fault.Failed) = true
disk_failed (Err fault.Memory) = false
disk_failed (Err (fault.Halted halt)) = runs.store_failed (Err halt)

abbrev pub folder_failed : Result Unit RunFault → Bool
folder_failed (Ok done) = false
folder_failed (Err (fault.Damaged at)) = false
folder_failed (Err fault.Failed) = false
folder_failed (Err fault.Memory) = false
folder_failed (Err (fault.Halted halt)) = runs.folder_failed (Err halt)

abbrev pub output_failed : Result Unit RunFault → Bool
output_failed (Ok done) = false
output_failed (Err (fault.Damaged at)) = false
output_failed (Err fault.Failed) = false
output_failed (Err fault.Memory) = false
output_failed (Err (fault.Halted halt)) = runs.output_failed (Err halt)
