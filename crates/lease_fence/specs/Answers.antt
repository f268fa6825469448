-- What the calls return, and which history is left.
use Rattle.std.specs.Prelude.{◌≡◌, ◌⊎◌, Bool, true, false, ℕ, Result, Ok, Err}
use Rattle.cluster_history.specs.History.{History, After, position}
use Rattle.cluster_objects.specs.declared.groups.LeaseStatus.{LeaseStatus}
use Rattle.cluster_objects.specs.declared.keys.Key.{Key}
use Rattle.cluster_objects.specs.declared.objects.Write.{Write}
use Rattle.olm_io.specs.declared.traits.Outage.{Outage}
use Rattle.olm_io.specs.declared.traits.Outage.TheVariants as outage
use Rattle.object_store.specs.Puts.{has_room}
use Rattle.object_store.specs.declared.cluster.ClusterFault.{ClusterFault}
use Rattle.object_store.specs.declared.cluster.ClusterFault.TheVariants as fault
use Rattle.lease_fence.specs.Grants.{lease_write}
use Rattle.lease_fence.specs.declared.terms.Grant.{Grant}
use Rattle.lease_fence.specs.declared.terms.Grant.TheVariants as grant
use Rattle.lease_fence.specs.declared.terms.Granted.{Granted}
use Rattle.lease_fence.specs.declared.terms.Granted.TheVariants as answer

-- the term, unless the store fails or memory runs out; damage is never found
abbrev pub TellsTerm : ℕ → Result ℕ ClusterFault → Type 0
TellsTerm term (Ok found) = found ≡ term
TellsTerm term (Err fault.Failed) = Unit {0}
TellsTerm term (Err (fault.Damaged at)) = ⊥
TellsTerm term (Err fault.Memory) = Unit {0}

-- there was room for the write, and it was made
abbrev pub IsMade : (History → Write → Bool) → ℕ → History → Write → History → Type 0
IsMade fits limit h w new = (has_room (fits h w) limit h ≡ true) × (new ≡ After w h)

-- If a lease is granted: what fits the store, its limit, the history before, the write, the lease in it, the history afterwards and the result. After a failed call the history is the old one, or the old one with the write.
abbrev pub Writes : (History → Write → Bool) → ℕ → History → Write → LeaseStatus → History → Granted → Type 0
Writes fits limit h w lease new (answer.Done term until version) =
    IsMade fits limit h w new × (term ≡ lease.term) × (until ≡ lease.until) × (version ≡ position new)
Writes fits limit h w lease new (answer.Held until) = ⊥
Writes fits limit h w lease new answer.Full = (has_room (fits h w) limit h ≡ false) × (new ≡ h)
Writes fits limit h w lease new answer.Failed = (new ≡ h) ⊎ IsMade fits limit h w new
Writes fits limit h w lease new answer.Memory = new ≡ h

-- If nothing is granted before a moment: the history stays.
abbrev pub Withholds : History → ℕ → History → Granted → Type 0
Withholds h until new (answer.Done term found version) = ⊥
Withholds h until new (answer.Held found) = (found ≡ until) × (new ≡ h)
Withholds h until new answer.Full = ⊥
Withholds h until new answer.Failed = new ≡ h
Withholds h until new answer.Memory = new ≡ h

-- The result by what is granted at the lease's key.
abbrev pub Answers : (History → Write → Bool) → ℕ → History → Key → Grant → History → Granted → Type 0
Answers fits limit h key (grant.NewTerm lease) new result = Writes fits limit h (lease_write h key lease) lease new result
Answers fits limit h key (grant.Renewal lease) new result = Writes fits limit h (lease_write h key lease) lease new result
Answers fits limit h key (grant.Held until) new result = Withholds h until new result

-- a call of the store failed
abbrev pub grant_failed : Granted → Bool
grant_failed (answer.Done term until version) = false
grant_failed (answer.Held until) = false
grant_failed answer.Full = false
grant_failed answer.Failed = true
grant_failed answer.Memory = false

-- a look at the store failed
abbrev pub outage_failed : {T : Type 0} → Result T Outage → Bool
outage_failed (Ok x) = false
outage_failed (Err outage.Failed) = true
outage_failed (Err outage.Memory) = false
