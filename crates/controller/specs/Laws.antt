-- What the calls answer is what the rules of runs say.
use Rattle.std.specs.Prelude.{◌≡◌, true, false, ℕ, List, Option, Some, None, slice_get}
use Rattle.cluster_history.specs.History.{History}
use Rattle.lease_fence.specs.declared.terms.Term.TheVariants as terms
use Rattle.event_script.specs.declared.events.Event.TheVariants as event
use Rattle.controller_rules.specs.Enabled.{IsQuiet}
use Rattle.run_rules.specs.Acting.{Acts}
use Rattle.run_rules.specs.Laws.{anything}
use Rattle.run_rules.specs.declared.outcomes.Outcome.TheVariants as line
use Rattle.run_rules.specs.declared.outcomes.Outcome.{Outcome}
use Rattle.run_rules.specs.Runs.{Passes}
use Rattle.run_rules.specs.Settling.{Settles}
use Rattle.run_rules.specs.States.{IsReopened, Outside, State, present, with_history, with_worker}
use Rattle.run_rules.specs.declared.workers.Worker.{Worker}
use Rattle.controller.specs.Answers.{ActAnswers, FencedAnswers, LookAnswers, SettleAnswers}
use Rattle.controller.specs.declared.answers.Acted.{Acted}
use Rattle.controller.specs.declared.answers.Acted.TheVariants as acted
use Rattle.controller.specs.declared.answers.Looked.TheVariants as look
use Rattle.controller.specs.declared.answers.Settled.{Settled}
use Rattle.controller.specs.declared.answers.Settled.TheVariants as settled

-- ---- looks

-- A worker that looked has what the rules say it has.
abbrev pub LooksGoBy : Type 0
LooksGoBy =
    (outside : Outside) (s : State) (number : ℕ) (worker after : Worker) (new : History) (length : ℕ)
    → slice_get s.workers number ≡ Some worker → LookAnswers s.history worker new after (look.Done length)
    → Passes anything outside s (event.Look number) (with_worker (with_history s new) number after) (line.Looked length)

-- A failed look, after which the store is reopened, is a fault, and the worker stays as it was.
abbrev pub FailedLooksAreFaults : Type 0
FailedLooksAreFaults =
    (outside : Outside) (s : State) (number : ℕ) (worker after : Worker) (mid new : History)
    → slice_get s.workers number ≡ Some worker → LookAnswers s.history worker mid after look.Failed
    → IsReopened outside mid new
    → (after ≡ worker) × Passes anything outside s (event.Look number) (with_history s new) line.Fault

-- ---- acts

-- what the line of an act says, where it has one
abbrev pub act_line : Acted → Option Outcome
act_line (acted.Put key version) = Some (line.Put key version)
act_line acted.Idle = Some line.Idle
act_line acted.NoView = Some line.NoView
act_line (acted.Conflict found) = Some (line.Conflict found)
act_line (acted.Stale term) = Some (line.Stale term)
act_line acted.Full = None
act_line acted.Failed = None
act_line acted.Memory = None

-- A fenced act comes to what its line says.
abbrev pub ActsGoBy : Type 0
ActsGoBy =
    (outside : Outside) (h new : History) (worker : Worker) (answer : Acted) (outcome : Outcome)
    → FencedAnswers outside h worker new answer → act_line answer ≡ Some outcome → Acts outside h worker new outcome

-- A failed one, after which the store is reopened, is a fault.
abbrev pub FailedActsAreFaults : Type 0
FailedActsAreFaults =
    (outside : Outside) (h mid new : History) (worker : Worker)
    → FencedAnswers outside h worker mid acted.Failed → IsReopened outside mid new → Acts outside h worker new line.Fault

-- A worker that never requested its lease acts without a fence.
abbrev pub FreeActsHaveNoFence : Type 0
FreeActsHaveNoFence =
    (outside : Outside) (h new : History) (worker : Worker) (answer : Acted) → worker.term ≡ terms.Free
    → FencedAnswers outside h worker new answer → ActAnswers outside h worker new answer

-- ---- settles

-- what the line of a settle says, where it has one
abbrev pub settle_line : Settled → Option Outcome
settle_line (settled.Quiet writes) = Some (line.Settled writes true)
settle_line (settled.Unsettled writes) = Some (line.Settled writes false)
settle_line (settled.Full writes) = None
settle_line (settled.Failed writes) = None
settle_line (settled.Memory writes) = None

-- A settle comes to what its line says.
abbrev pub SettlesGoBy : Type 0
SettlesGoBy =
    (outside : Outside) (namespace : List ℕ) (turns : ℕ) (h new : History) (answer : Settled) (outcome : Outcome)
    → SettleAnswers outside namespace turns h new answer → settle_line answer ≡ Some outcome
    → Settles outside namespace turns h new outcome

-- A failed one, after which the store is reopened, is a fault.
abbrev pub FailedSettlesAreFaults : Type 0
FailedSettlesAreFaults =
    (outside : Outside) (namespace : List ℕ) (turns : ℕ) (h mid new : History) (writes : ℕ)
    → SettleAnswers outside namespace turns h mid (settled.Failed writes) → IsReopened outside mid new
    → Settles outside namespace turns h new line.Fault

-- After a settle that is quiet no role has a write in the namespace.
abbrev pub QuietIsQuiet : Type 0
QuietIsQuiet =
    (outside : Outside) (namespace : List ℕ) (turns : ℕ) (h new : History) (writes : ℕ)
    → SettleAnswers outside namespace turns h new (settled.Quiet writes) → IsQuiet (present new namespace)
