-- What holds of the fields of an event that was read.
use Rattle.std.specs.Prelude.{◌≡◌, ◌≤◌, ⊤, ℕ, true, List, length, Option, None, Some}
use Rattle.cluster_objects.specs.declared.objects.Writer.{Writer}
use Rattle.cluster_objects.specs.declared.objects.Writer.TheVariants.{User, Resolver, Installer, Phases}
use Rattle.cluster_objects.specs.declared.statuses.Readiness.{Readiness}
use Rattle.cluster_objects.specs.declared.statuses.Readiness.TheVariants.{Waiting, Ready, Failed}
use Rattle.olm_base.specs.Names.{is_outside_name, is_group}
use Rattle.event_script.specs.declared.events.Event.{Event}
use Rattle.event_script.specs.declared.events.Event.TheVariants as event
use Rattle.event_script.specs.Events.{least_budget, greatest_budget, greatest_worker, least_turns, greatest_turns, greatest_now, least_keep, greatest_keep}

-- a name of at most 253 bytes
abbrev pub IsName : List ℕ → Type 0
IsName text = is_outside_name text ≡ true

-- such a name, or empty
abbrev pub IsGroup : List ℕ → Type 0
IsGroup text = is_group text ≡ true

abbrev pub IsReport : Readiness → Type 0
IsReport Waiting = ⊥
IsReport Ready = ⊤
IsReport Failed = ⊤

-- from `least` to `greatest`, both of them included
abbrev pub IsWithin : ℕ → ℕ → ℕ → Type 0
IsWithin least greatest n = (least ≤ n) × (n ≤ greatest)

-- the same where a number is given
abbrev pub IsGivenWithin : ℕ → ℕ → Option ℕ → Type 0
IsGivenWithin least greatest None = ⊤
IsGivenWithin least greatest (Some n) = IsWithin least greatest n

abbrev pub IsBudget : Option ℕ → Type 0
IsBudget = IsGivenWithin least_budget greatest_budget

abbrev pub IsRole : Writer → Type 0
IsRole User = ⊥
IsRole Resolver = ⊤
IsRole Installer = ⊤
IsRole Phases = ⊤

abbrev pub IsTurns : Option ℕ → Type 0
IsTurns = IsGivenWithin least_turns greatest_turns

abbrev pub IsWorker : ℕ → Type 0
IsWorker = IsWithin 0 greatest_worker

-- A priority is any integer of its type.
abbrev pub IsInRange : Event → Type 0
IsInRange (event.Apply body) = ⊤
IsInRange (event.Delete group kind namespace name) = IsGroup group × IsName kind × IsGroup namespace × IsName name
IsInRange (event.Approve namespace name) = IsName namespace × IsName name
IsInRange (event.Catalog namespace name path priority) = IsName namespace × IsName name × (1 ≤ length path)
IsInRange (event.Ready namespace name state) = IsName namespace × IsName name × IsReport state
IsInRange (event.Retry namespace budget) = IsName namespace × IsBudget budget
IsInRange (event.Worker role namespace) = IsRole role × IsName namespace
IsInRange (event.Look worker) = IsWorker worker
IsInRange (event.Act worker) = IsWorker worker
IsInRange (event.Settle namespace turns) = IsName namespace × IsTurns turns
IsInRange event.Restart = ⊤
IsInRange (event.Release namespace) = IsName namespace
IsInRange (event.Lease worker now keep) = IsWorker worker × IsWithin 0 greatest_now now × IsWithin least_keep greatest_keep keep
