-- What is so of every act, settle and run.
use Rattle.std.specs.Prelude.{◌≡◌, ◌≤◌, ◌+◌, ℕ, Bool, true, List, Some, slice_get}
use Rattle.cluster_objects.specs.declared.keys.Key.{Key}
use Rattle.cluster_objects.specs.declared.objects.Write.{Write}
use Rattle.cluster_history.specs.History.{History, after_all, base_of, position}
use Rattle.cluster_history.specs.Views.{View, view}
use Rattle.lease_fence.specs.declared.terms.Term.TheVariants as terms
use Rattle.run_rules.specs.Acting.{Acts, present_term}
use Rattle.event_script.specs.declared.events.Event.{Event}
use Rattle.controller_rules.specs.Enabled.{IsQuiet}
use Rattle.run_rules.specs.declared.outcomes.Outcome.{Outcome}
use Rattle.run_rules.specs.declared.outcomes.Outcome.TheVariants.{Put, Settled}
use Rattle.run_rules.specs.Runs.{AllPass, Runs}
use Rattle.run_rules.specs.Settling.{Settles}
use Rattle.run_rules.specs.States.{Asking, Outside, State, begun, present}
use Rattle.run_rules.specs.declared.workers.Worker.{Worker}

-- A worker that holds a term puts a write only where the lease of its role has this term.
abbrev pub FencedPutsHoldTheTerm : Type 0
FencedPutsHoldTheTerm =
    (outside : Outside) (h new : History) (worker : Worker) (held : ℕ) (key : Key) (version : ℕ)
    → worker.term ≡ terms.Held held → Acts outside h worker new (Put key version) → present_term h worker ≡ held

-- A settle makes as many writes as its line says.
abbrev pub SettlesCount : Type 0
SettlesCount =
    (outside : Outside) (namespace : List ℕ) (turns : ℕ) (h new : History) (writes : ℕ) (quiet : Bool)
    → Settles outside namespace turns h new (Settled writes quiet) → position new ≡ position h + writes

-- Where its line says quiet, no role has a write in the namespace.
abbrev pub QuietIsQuiet : Type 0
QuietIsQuiet =
    (outside : Outside) (namespace : List ℕ) (turns : ℕ) (h new : History) (writes : ℕ)
    → Settles outside namespace turns h new (Settled writes true) → IsQuiet (present new namespace)

-- a user's event may ask for anything
abbrev pub anything : Asking
anything h e answer = Unit {0}

-- Where the store tells what it holds, a run of any events leaves the history with writes after it, whatever users ask for.
abbrev pub RunsExtend : Type 0
RunsExtend =
    (outside : Outside) (h new : History) (es : List Event) (outcomes : List Outcome) → outside.tells ≡ true
    → Runs anything outside h es new outcomes → (writes : List Write) × (new ≡ after_all h writes)

-- Each view that a worker holds is that of its namespace at some length of the history, from the base's on.
abbrev pub HoldTheirViews : State → Type 0
HoldTheirViews s =
    (i : ℕ) (worker : Worker) (held : View) → slice_get s.workers i ≡ Some worker → worker.view ≡ Some held
    → (a : ℕ) × ((base_of s.history).length ≤ a) × (a ≤ position s.history) × (held ≡ view s.history worker.namespace a)

-- Where the store tells what it holds, this is so after any events of a run.
abbrev pub RunsHoldTheirViews : Type 0
RunsHoldTheirViews =
    (outside : Outside) (h : History) (es : List Event) (new : State) (outcomes : List Outcome) → outside.tells ≡ true
    → AllPass anything outside (begun h) es new outcomes → HoldTheirViews new
