-- How one lease of a role follows another.
use Rattle.std.specs.Prelude.{◌≡◌, ◌≤◌, ◌⊎◌, Option, Some, None}
use Rattle.cluster_objects.specs.declared.groups.LeaseStatus.{LeaseStatus}
use Rattle.lease_fence.specs.Grants.{next_term}

-- the same term with the same holder, and no smaller `until`
pub record IsRenewalOf (old new : LeaseStatus) : Type 0 where
  pub term : new.term ≡ old.term
  pub holder : new.holder ≡ old.holder
  pub until : old.until ≤ new.until

-- After no lease comes the first term. After a lease comes the next term, or a renewal of the lease.
abbrev pub IsNextLease : Option LeaseStatus → LeaseStatus → Type 0
IsNextLease None new = new.term ≡ next_term None
IsNextLease (Some old) new = (new.term ≡ next_term (Some old)) ⊎ IsRenewalOf old new

-- the leases of a key before and after a write: the lease stays, or the next one has taken its place
abbrev pub LeaseLater : Option LeaseStatus → Option LeaseStatus → Type 0
LeaseLater old new = (new ≡ old) ⊎ ((lease : LeaseStatus) × (new ≡ Some lease) × IsNextLease old lease)
