-- The state of a run, and what stays outside of it.
use Rattle.std.specs.Prelude.{◌≡◌, Bool, true, ℕ, List, [], ◌∷◌, ◌++◌, Option, Some, None, Result, slice_set}
use Rattle.cluster_objects.specs.declared.objects.Write.{Write}
use Rattle.cluster_objects.specs.declared.objects.Writer.{Writer}
use Rattle.cluster_objects.specs.declared.objects.Writer.TheVariants as writer
use Rattle.cluster_history.specs.History.{After, History, position}
use Rattle.cluster_history.specs.Views.{View, view}
use Rattle.object_store.specs.Puts.{Agrees}
use Rattle.lease_fence.specs.declared.terms.Term.{Term}
use Rattle.lease_fence.specs.declared.terms.Term.TheVariants as terms
use Rattle.event_script.specs.declared.events.Event.{Event}
use Rattle.controller_rules.specs.declared.roles.Role.{Role}
use Rattle.controller_rules.specs.declared.roles.Role.TheVariants.{Resolver, Installer, Phases}
use Rattle.run_rules.specs.declared.workers.Worker.{Worker}

-- ---- the state

-- A history, and the workers, which are numbered from 0 in the order in which they came.
pub record State : Type 0 where
  pub history : History
  pub workers : List Worker

-- A run begins without workers.
abbrev pub begun : History → State
begun h = record { history = h; workers = [] }

abbrev pub with_history : State → History → State
with_history s h = record s { history = h }

abbrev pub with_worker : State → ℕ → Worker → State
with_worker s number worker = record s { workers = slice_set s.workers number worker }

-- ---- workers

-- The role that writes as this writer; a user has none.
abbrev pub role_of : Writer → Option Role
role_of writer.User = None
role_of writer.Resolver = Some Resolver
role_of writer.Installer = Some Installer
role_of writer.Phases = Some Phases

-- A worker that comes has requested no lease and taken no view.
abbrev pub arrived : Role → List ℕ → Worker
arrived role namespace = record { role = role; namespace = namespace; term = terms.Free; view = None }

abbrev pub with_arrived : State → Role → List ℕ → State
with_arrived s role namespace = record s { workers = s.workers ++ arrived role namespace ∷ [] }

-- the present view of a namespace
abbrev pub present : History → List ℕ → View
present h namespace = view h namespace (position h)

-- The worker has taken the present view.
abbrev pub looked : History → Worker → Worker
looked h worker = record worker { view = Some (present h worker.namespace) }

-- A restart takes the term of a worker that holds one, and each view.
abbrev pub term_restarted : Term → Term
term_restarted terms.Free = terms.Free
term_restarted (terms.Held term) = terms.Lost
term_restarted terms.Lost = terms.Lost

abbrev pub restarted : Worker → Worker
restarted worker = record worker { term = term_restarted worker.term; view = None }

-- ---- outside

-- Whether the store tells what it holds, and for which writes it has room after a history.
pub record Outside : Type 0 where
  pub tells : Bool
  pub has_room : History → Write → Bool

-- What a user's event asks for after a history: a write, or a refusal with its reason.
abbrev pub Asking : Type 1
Asking = History → Event → Result Write (List ℕ) → Type 0

-- What the reopened store holds is the history, where it tells. Else it may hold another.
abbrev pub IsReopened : Outside → History → History → Type 0
IsReopened outside h new = outside.tells ≡ true → new ≡ h

-- A lost answer leaves the history without the write, or with it where it could be made. Then the store is reopened.
pub data IsLeft (outside : Outside) (h : History) (w : Write) (new : History) : Type 0 where
  Without : IsReopened outside h new → IsLeft outside h w new
  With : Agrees h w → outside.has_room h w ≡ true → IsReopened outside (After w h) new → IsLeft outside h w new
