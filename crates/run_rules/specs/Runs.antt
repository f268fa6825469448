-- Runs of events.
use Rattle.std.specs.Prelude.{◌≡◌, Bool, true, false, ℕ, length, List, [], ◌∷◌, ◌++◌, map, Option, Some, None, Ok, Err, slice_get}
use Rattle.cluster_objects.specs.declared.objects.Write.{Write}
use Rattle.cluster_objects.specs.declared.objects.Writer.{Writer}
use Rattle.cluster_history.specs.History.{After, History, position}
use Rattle.lease_fence.specs.declared.terms.Term.{Term}
use Rattle.event_script.specs.declared.events.Event.{Event}
use Rattle.event_script.specs.declared.events.Event.TheVariants as event
use Rattle.controller_rules.specs.declared.roles.Role.{Role}
use Rattle.run_rules.specs.Acting.{Acts}
use Rattle.run_rules.specs.Leasing.{Leases}
use Rattle.run_rules.specs.declared.outcomes.Outcome.{Outcome}
use Rattle.run_rules.specs.declared.outcomes.Outcome.TheVariants.{Arrived, Done, Fault, Looked, NoWorker, Refused, Restarted}
use Rattle.run_rules.specs.Settling.{Settles, turns_of}
use Rattle.run_rules.specs.States.{Asking, IsLeft, IsReopened, Outside, State, begun, looked, restarted, role_of, with_arrived, with_history, with_worker}
use Rattle.run_rules.specs.declared.workers.Worker.{Worker}

-- ---- one event

-- The event is a user's.
abbrev pub is_users : Event → Bool
is_users (event.Apply body) = true
is_users (event.Delete group kind namespace name) = true
is_users (event.Approve namespace name) = true
is_users (event.Catalog namespace name path priority) = true
is_users (event.Ready namespace name state) = true
is_users (event.Retry namespace budget) = true
is_users (event.Worker role namespace) = false
is_users (event.Look worker) = false
is_users (event.Act worker) = false
is_users (event.Settle namespace turns) = false
is_users event.Restart = false
is_users (event.Release namespace) = true
is_users (event.Lease worker now keep) = false

-- the number of the worker that the event names
abbrev pub worker_named : Event → Option ℕ
worker_named (event.Apply body) = None
worker_named (event.Delete group kind namespace name) = None
worker_named (event.Approve namespace name) = None
worker_named (event.Catalog namespace name path priority) = None
worker_named (event.Ready namespace name state) = None
worker_named (event.Retry namespace budget) = None
worker_named (event.Worker role namespace) = None
worker_named (event.Look worker) = Some worker
worker_named (event.Act worker) = Some worker
worker_named (event.Settle namespace turns) = None
worker_named event.Restart = None
worker_named (event.Release namespace) = None
worker_named (event.Lease worker now keep) = Some worker

-- An event goes by: what users' events ask for, the state before, the event, the state afterwards, and what its line says.
pub data Passes (Asks : Asking) (outside : Outside) (s : State) : Event → State → Outcome → Type 0 where
  -- a user's event: its write is made, it is refused, the answer is lost, or the store fails before a write
  Writes : (e : Event) (w : Write) → is_users e ≡ true → Asks s.history e (Ok w)
      → outside.has_room s.history w ≡ true
      → Passes Asks outside s e (with_history s (After w s.history)) (Done w.key (position (After w s.history)))
  Refuses : (e : Event) (reason : List ℕ) → is_users e ≡ true → Asks s.history e (Err reason)
      → Passes Asks outside s e s (Refused reason)
  Loses : (e : Event) (w : Write) (new : History) → is_users e ≡ true → Asks s.history e (Ok w)
      → IsLeft outside s.history w new → Passes Asks outside s e (with_history s new) Fault
  Fails : (e : Event) (new : History) → is_users e ≡ true → IsReopened outside s.history new
      → Passes Asks outside s e (with_history s new) Fault
  -- a worker comes, and gets the next number
  Comes : (by : Writer) (role : Role) (namespace : List ℕ) → role_of by ≡ Some role
      → Passes Asks outside s (event.Worker by namespace) (with_arrived s role namespace) (Arrived (length s.workers))
  -- a worker takes the present view, or can't
  Looks : (number : ℕ) (worker : Worker) → slice_get s.workers number ≡ Some worker
      → Passes Asks outside s (event.Look number) (with_worker s number (looked s.history worker)) (Looked (position s.history))
  LookFails : (number : ℕ) (worker : Worker) (new : History) → slice_get s.workers number ≡ Some worker
      → IsReopened outside s.history new → Passes Asks outside s (event.Look number) (with_history s new) Fault
  -- a worker acts, and keeps its view
  Acted : (number : ℕ) (worker : Worker) (new : History) (outcome : Outcome) → slice_get s.workers number ≡ Some worker
      → Acts outside s.history worker new outcome → Passes Asks outside s (event.Act number) (with_history s new) outcome
  -- a namespace settles
  HasSettled : (namespace : List ℕ) (turns : Option ℕ) (new : History) (outcome : Outcome)
      → Settles outside namespace (turns_of turns) s.history new outcome
      → Passes Asks outside s (event.Settle namespace turns) (with_history s new) outcome
  -- a worker requests its lease
  Requested : (number now keep : ℕ) (worker : Worker) (new : History) (term : Term) (outcome : Outcome)
      → slice_get s.workers number ≡ Some worker → Leases outside s.history number worker now keep new term outcome
      → Passes Asks outside s (event.Lease number now keep)
      (with_worker (with_history s new) number (record worker { term = term })) outcome
  -- the store is reopened, and each worker is restarted
  Restarts : (new : History) → IsReopened outside s.history new
      → Passes Asks outside s event.Restart (record { history = new; workers = map restarted s.workers }) Restarted
  -- there is no worker of this number
  Misses : (e : Event) (number : ℕ) → worker_named e ≡ Some number → slice_get s.workers number ≡ None
      → Passes Asks outside s e s NoWorker

-- ---- a list of them

-- All events go by, one after the other, each with what its line says.
pub data AllPass (Asks : Asking) (outside : Outside) : State → List Event → State → List Outcome → Type 0 where
  NoEvents : (s : State) → AllPass Asks outside s [] s []
  Next : (s mid new : State) (e : Event) (es : List Event) (outcome : Outcome) (outcomes : List Outcome)
      → Passes Asks outside s e mid outcome → AllPass Asks outside mid es new outcomes
      → AllPass Asks outside s (e ∷ es) new (outcome ∷ outcomes)

-- The history that an event leaves that ended the run: that before it, or one that it leaves where it goes by. A settle that
-- ended after some turns leaves what it leaves where no view can be taken after them.
pub data MayLeave (Asks : Asking) (outside : Outside) (s : State) (e : Event) : History → Type 0 where
  Nothing : MayLeave Asks outside s e s.history
  Something : (new : State) (outcome : Outcome) → Passes Asks outside s e new outcome → MayLeave Asks outside s e new.history

-- A run of events over a history: the history afterwards, and what the lines say. Either all events go by, or one of them
-- ends the run: those before it have gone by, and those after it aren't applied.
pub data Runs (Asks : Asking) (outside : Outside) (h : History) (es : List Event) : History → List Outcome → Type 0 where
  Completes : (new : State) (outcomes : List Outcome) → AllPass Asks outside (begun h) es new outcomes
      → Runs Asks outside h es new.history outcomes
  EndsAt : (earlier : List Event) (e : Event) (later : List Event) (mid : State) (new : History) (outcomes : List Outcome)
      → es ≡ earlier ++ e ∷ later → AllPass Asks outside (begun h) earlier mid outcomes → MayLeave Asks outside mid e new
      → Runs Asks outside h es new outcomes
