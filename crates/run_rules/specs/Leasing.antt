-- What a worker's request for the lease of its role comes to.
use Rattle.std.specs.Prelude.{◌≡◌, true, ℕ, Some}
use Rattle.cluster_objects.specs.Places.{lease_key}
use Rattle.cluster_objects.specs.declared.groups.LeaseStatus.{LeaseStatus}
use Rattle.cluster_objects.specs.declared.objects.Write.{Write}
use Rattle.cluster_history.specs.History.{After, History}
use Rattle.lease_fence.specs.Grants.{granted_at, lease_write, lease_written}
use Rattle.lease_fence.specs.declared.terms.Grant.{Grant}
use Rattle.lease_fence.specs.declared.terms.Grant.TheVariants as grant
use Rattle.lease_fence.specs.declared.terms.Term.{Term}
use Rattle.lease_fence.specs.declared.terms.Term.TheVariants as terms
use Rattle.controller_rules.specs.Enabled.{writer_of}
use Rattle.run_rules.specs.declared.outcomes.Outcome.{Outcome}
use Rattle.run_rules.specs.declared.outcomes.Outcome.TheVariants.{Fault, HeldUntil, Leased}
use Rattle.run_rules.specs.States.{IsLeft, IsReopened, Outside}
use Rattle.run_rules.specs.declared.workers.Worker.{Worker}

-- what is granted to the worker of a number, at a moment and for so long
abbrev pub granted_to : History → ℕ → Worker → ℕ → ℕ → Grant
granted_to h number worker now keep =
    granted_at h worker.namespace (writer_of worker.role) number worker.term now keep

-- the write of a lease of the worker's role
abbrev pub write_of : History → Worker → LeaseStatus → Write
write_of h worker lease = lease_write h (lease_key worker.namespace (writer_of worker.role)) lease

-- What the worker holds after it was granted nothing.
abbrev pub term_refused : Term → Term
term_refused terms.Free = terms.Lost
term_refused (terms.Held term) = terms.Held term
term_refused terms.Lost = terms.Lost

-- The history before, the worker's number and the worker, the moment and for how long; the history afterwards, what the
-- worker holds then, and what the line says.
pub data Leases (outside : Outside) (h : History) (number : ℕ) (worker : Worker) (now keep : ℕ) : History → Term → Outcome → Type 0 where
  -- a lease is granted, and written
  Grants : (lease : LeaseStatus) → lease_written (granted_to h number worker now keep) ≡ Some lease
      → outside.has_room h (write_of h worker lease) ≡ true
      → Leases outside h number worker now keep (After (write_of h worker lease) h) (terms.Held lease.term)
      (Leased lease.term lease.until)
  -- nothing is granted
  Refuses : (until : ℕ) → granted_to h number worker now keep ≡ grant.Held until
      → Leases outside h number worker now keep h (term_refused worker.term) (HeldUntil until)
  -- the store fails before a write
  Fails : (new : History) → IsReopened outside h new → Leases outside h number worker now keep new terms.Lost Fault
  -- the answer to the write is lost
  Loses : (lease : LeaseStatus) (new : History) → lease_written (granted_to h number worker now keep) ≡ Some lease
      → IsLeft outside h (write_of h worker lease) new → Leases outside h number worker now keep new terms.Lost Fault
