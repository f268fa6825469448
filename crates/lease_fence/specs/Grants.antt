-- What a worker is granted that requests a lease, and which write is made for it.
use Rattle.std.specs.Prelude.{◌≡◌, ◌≢◌, ◌≤◌, ◌<◌, ◌+◌, ◌-◌, ◌^◌, ◌&&◌, ◌==◌, nat_le, nat_lt, max, if◌then◌else◌, Bool, true, false, ℕ, List, [], Option, Some, None}
use Rattle.olm_base.specs.Names.{is_name}
use Rattle.cluster_history.specs.History.{History, position, slot}
use Rattle.cluster_history.specs.declared.slots.Slot.{Slot}
use Rattle.cluster_objects.specs.Kinds.{lease_at}
use Rattle.cluster_objects.specs.Places.{lease_key}
use Rattle.cluster_objects.specs.declared.groups.LeaseStatus.{LeaseStatus}
use Rattle.cluster_objects.specs.declared.keys.Key.{Key}
use Rattle.cluster_objects.specs.declared.objects.Object.{Object}
use Rattle.cluster_objects.specs.declared.objects.Status.TheVariants as status
use Rattle.cluster_objects.specs.declared.objects.Write.{Write}
use Rattle.cluster_objects.specs.declared.objects.Writer.{Writer}
use Rattle.cluster_objects.specs.declared.objects.Writer.TheVariants as writer
use Rattle.lease_fence.specs.Leases.{lease_of}
use Rattle.lease_fence.specs.declared.terms.Grant.{Grant}
use Rattle.lease_fence.specs.declared.terms.Grant.TheVariants as grant
use Rattle.lease_fence.specs.declared.terms.Term.{Term}
use Rattle.lease_fence.specs.declared.terms.Term.TheVariants as terms

-- ---- the cases

-- The first term is 1. The term 2^64 - 1 has itself as its next.
abbrev pub next_term : Option LeaseStatus → ℕ
next_term None = 1
next_term (Some lease) = if nat_lt lease.term (2 ^ 64 - 1) then lease.term + 1 else lease.term

-- the worker holds this term
abbrev pub holds : Term → ℕ → Bool
holds terms.Free term = false
holds (terms.Held held) term = held == term
holds terms.Lost term = false

-- a lease with the next term
abbrev pub newly : Option LeaseStatus → ℕ → ℕ → ℕ → LeaseStatus
newly there holder now keep = record { term = next_term there; holder = holder; until = now + keep }

-- the lease with the same term and the same holder, and the greater of the two times
abbrev pub renewed : LeaseStatus → ℕ → ℕ → LeaseStatus
renewed there now keep = record there { until = max there.until (now + keep) }

-- The arguments are the lease that is there, the worker's number, what it holds, the moment, and for how long it requests the lease. A new term is granted if there is no lease or its time is over. Otherwise a renewal is granted to the holder if it holds the term. Otherwise nothing is granted, and the lease is held until its time is over.
abbrev pub granted : Option LeaseStatus → ℕ → Term → ℕ → ℕ → Grant
granted None holder held now keep = grant.NewTerm (newly None holder now keep)
granted (Some there) holder held now keep =
    if nat_le there.until now then grant.NewTerm (newly (Some there) holder now keep)
    else if holds held there.term && there.holder == holder then grant.Renewal (renewed there now keep)
    else grant.Held there.until

-- what is granted after a history
abbrev pub granted_at : History → List ℕ → Writer → ℕ → Term → ℕ → ℕ → Grant
granted_at h namespace role holder held now keep = granted (lease_of h namespace role) holder held now keep

-- the lease that is written, if one is granted
abbrev pub lease_written : Grant → Option LeaseStatus
lease_written (grant.NewTerm lease) = Some lease
lease_written (grant.Renewal lease) = Some lease
lease_written (grant.Held until) = None

-- ---- the write

-- A Lease that is there keeps its owner. If no Lease is there, the new one has no owner, whatever object is at its key.
abbrev pub kept_owner : Option LeaseStatus → Option Object → Option (List ℕ)
kept_owner None there = None
kept_owner (Some lease) None = None
kept_owner (Some lease) (Some object) = object.owner

abbrev pub lease_object : Key → Option Object → ℕ → LeaseStatus → Object
lease_object key there seen lease = record {
  body = [];
  status = status.Lease lease;
  owner = kept_owner (lease_at key there) there;
  stamp = None;
  seen = seen;
}

-- A user's write expects the version of the slot at the key, and `seen` is the length of the history.
abbrev pub write_over : Slot → ℕ → Key → LeaseStatus → Write
write_over there seen key lease = record {
  by = writer.User;
  expect = there.version;
  key = key;
  object = Some (lease_object key there.object seen lease);
}

abbrev pub lease_write : History → Key → LeaseStatus → Write
lease_write h key lease = write_over (slot h key) (position h) key lease

-- The write is that of a grant after the history: some number, with some term or none, is granted a lease of a worker's role, at a moment of at most 2^62, for 1 to 86,400.
pub record IsGrant (h : History) (w : Write) : Type 0 where
  pub namespace : List ℕ
  pub role : Writer
  pub holder : ℕ
  pub held : Term
  pub moment : ℕ
  pub keep : ℕ
  pub lease : LeaseStatus
  pub place : is_name namespace ≡ true
  pub worker : role ≢ writer.User
  pub number : holder < 2 ^ 32
  pub latest : moment ≤ 2 ^ 62
  pub shortest : 1 ≤ keep
  pub longest : keep ≤ 86400
  pub gives : lease_written (granted_at h namespace role holder held moment keep) ≡ Some lease
  pub write : w ≡ lease_write h (lease_key namespace role) lease
