-- The lease of a role in a namespace after a history.
use Rattle.std.specs.Prelude.{ℕ, List, Option, Some, None}
use Rattle.cluster_history.specs.History.{History, slot}
use Rattle.cluster_objects.specs.Kinds.{lease_at}
use Rattle.cluster_objects.specs.Places.{lease_key}
use Rattle.cluster_objects.specs.declared.groups.LeaseStatus.{LeaseStatus}
use Rattle.cluster_objects.specs.declared.objects.Writer.{Writer}

-- the object at the lease's key, if it counts as a Lease
abbrev pub lease_of : History → List ℕ → Writer → Option LeaseStatus
lease_of h namespace role = lease_at (lease_key namespace role) (slot h (lease_key namespace role)).object

-- the term of a lease, or 0 if there is none
abbrev pub term_in : Option LeaseStatus → ℕ
term_in None = 0
term_in (Some lease) = lease.term

abbrev pub term : History → List ℕ → Writer → ℕ
term h namespace role = term_in (lease_of h namespace role)
