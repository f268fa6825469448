-- What an act of a worker comes to.
use Rattle.std.specs.Prelude.{◌≡◌, ◌≢◌, ◌==◌, Bool, true, false, not, ℕ, Some, None}
use Rattle.cluster_objects.specs.declared.objects.Write.{Write}
use Rattle.cluster_history.specs.History.{After, History, position, slot}
use Rattle.cluster_history.specs.Views.{View}
use Rattle.lease_fence.specs.Leases.{term}
use Rattle.lease_fence.specs.declared.terms.Term.{Term}
use Rattle.lease_fence.specs.declared.terms.Term.TheVariants as terms
use Rattle.controller_rules.specs.Enabled.{IsFirst, writer_of}
use Rattle.run_rules.specs.declared.outcomes.Outcome.{Outcome}
use Rattle.run_rules.specs.declared.outcomes.Outcome.TheVariants.{Conflict, Fault, Idle, NoView, Put, Stale}
use Rattle.run_rules.specs.States.{IsLeft, IsReopened, Outside}
use Rattle.run_rules.specs.declared.workers.Worker.{Worker}

-- the present term of the lease of the worker's role
abbrev pub present_term : History → Worker → ℕ
present_term h worker = term h worker.namespace (writer_of worker.role)

-- The worker requested its lease at some time, so that it acts only under it.
abbrev pub is_fenced : Term → Bool
is_fenced terms.Free = false
is_fenced (terms.Held held) = true
is_fenced terms.Lost = true

-- The worker lost its term, or it holds another one than the present one. A worker that requested none is never stale.
abbrev pub is_stale : Term → ℕ → Bool
is_stale terms.Free found = false
is_stale (terms.Held held) found = not (held == found)
is_stale terms.Lost found = true

-- The worker may act in the view that it holds.
pub record MayAct (h : History) (worker : Worker) (view : View) : Type 0 where
  pub holds : worker.view ≡ Some view
  pub fresh : is_stale worker.term (present_term h worker) ≡ false

-- The history before, the worker, the history afterwards, and what the line says.
pub data Acts (outside : Outside) (h : History) (worker : Worker) : History → Outcome → Type 0 where
  -- it holds no view
  HasNoView : worker.view ≡ None → Acts outside h worker h NoView
  -- it holds a view, and is stale
  IsStale : (view : View) → worker.view ≡ Some view → is_stale worker.term (present_term h worker) ≡ true
      → Acts outside h worker h (Stale (present_term h worker))
  -- it has no write in its view
  HasNone : (view : View) → MayAct h worker view → IsFirst worker.role view None → Acts outside h worker h Idle
  -- the key of its first write has another version than the write expects
  Conflicts : (view : View) (w : Write) → MayAct h worker view → IsFirst worker.role view (Some w)
      → w.expect ≢ (slot h w.key).version → Acts outside h worker h (Conflict (slot h w.key).version)
  -- its first write is made
  Makes : (view : View) (w : Write) → MayAct h worker view → IsFirst worker.role view (Some w)
      → w.expect ≡ (slot h w.key).version → outside.has_room h w ≡ true
      → Acts outside h worker (After w h) (Put w.key (position (After w h)))
  -- the answer to its first write is lost
  Loses : (view : View) (w : Write) (new : History) → MayAct h worker view → IsFirst worker.role view (Some w)
      → IsLeft outside h w new → Acts outside h worker new Fault
  -- the present term can't be read
  TermFails : (view : View) (new : History) → worker.view ≡ Some view → is_fenced worker.term ≡ true
      → IsReopened outside h new → Acts outside h worker new Fault
