-- How a start ends.
use Rattle.std.specs.Prelude.{Result, Ok, Err}
use Rattle.object_store.specs.declared.cluster.ClusterFault.{ClusterFault}
use Rattle.object_store.specs.declared.cluster.ClusterFault.TheVariants as fault
use Rattle.log_store.specs.declared.starting.StartFault.{StartFault}
use Rattle.log_store.specs.declared.starting.StartFault.TheVariants as start
use Rattle.log_store.specs.Store.{LogClusterState}

-- the disk that is given back
abbrev pub disk_of : {D : Type 0} → StartFault D → D
disk_of (start.Damaged at disk) = disk
disk_of (start.Failed disk) = disk
disk_of (start.Memory disk) = disk

-- why no store was started, as a reopening says it
abbrev pub cause_of : {D : Type 0} → StartFault D → ClusterFault
cause_of (start.Damaged at disk) = fault.Damaged at
cause_of (start.Failed disk) = fault.Failed
cause_of (start.Memory disk) = fault.Memory

-- the disk afterwards: in the store, or given back
abbrev pub disk_after : {D : Type 0} → Result (LogClusterState D) (StartFault D) → D
disk_after (Ok store) = store.disk
disk_after (Err e) = disk_of e

-- the answer without the disk
abbrev pub told : {D : Type 0} → Result (LogClusterState D) (StartFault D) → Result (LogClusterState D) ClusterFault
told (Ok store) = Ok store
told (Err e) = Err (cause_of e)
