-- What the calls of the controller return, and what they leave.
use Rattle.std.specs.Prelude.{◌≡◌, ◌≢◌, ◌≤◌, ◌<◌, ◌⊎◌, Bool, true, false, ℕ, List, Option, Some, None, if◌then◌else◌}
use Rattle.cluster_objects.specs.declared.objects.Write.{Write}
use Rattle.cluster_history.specs.History.{After, History, position, slot}
use Rattle.cluster_history.specs.Views.{View}
use Rattle.object_store.specs.Puts.{Agrees, has_room}
use Rattle.lease_fence.specs.declared.terms.Term.{Term}
use Rattle.controller_rules.specs.Enabled.{IsFirst, IsQuiet}
use Rattle.controller_rules.specs.declared.roles.Role.{Role}
use Rattle.run_rules.specs.Acting.{is_fenced, is_stale, present_term}
use Rattle.run_rules.specs.Settling.{IsTurn, Turns}
use Rattle.run_rules.specs.States.{Outside, looked, present}
use Rattle.run_rules.specs.declared.workers.Worker.{Worker}
use Rattle.controller.specs.declared.answers.Acted.{Acted}
use Rattle.controller.specs.declared.answers.Acted.TheVariants as acted
use Rattle.controller.specs.declared.answers.Fence.{Fence}
use Rattle.controller.specs.declared.answers.Fence.TheVariants as fence
use Rattle.controller.specs.declared.answers.Looked.{Looked}
use Rattle.controller.specs.declared.answers.Looked.TheVariants as look
use Rattle.controller.specs.declared.answers.Settled.{Settled}
use Rattle.controller.specs.declared.answers.Settled.TheVariants as settled
use Rattle.controller.specs.declared.answers.Turned.{Turned}
use Rattle.controller.specs.declared.answers.Turned.TheVariants as turned

-- what stays outside, by whether the store tells what it holds, what fits it, and its limit
abbrev pub outside_of : Bool → (History → Write → Bool) → ℕ → Outside
outside_of tells fits limit = record { tells = tells; has_room = λ h w. has_room (fits h w) limit h }

-- The write expects its key's version, there is room for it, and it is made.
abbrev pub IsMade : Outside → History → Write → History → Type 0
IsMade outside h w new = Agrees h w × (outside.has_room h w ≡ true) × (new ≡ After w h)

-- ---- views

-- The next write in a view: that of a turn, and None where no role has a write.
abbrev pub IsNext : View → Option Write → Type 0
IsNext view None = IsQuiet view
IsNext view (Some w) = IsTurn view w

-- ---- a look

-- The history before and the worker before, both afterwards, and the answer. A look that can't be taken leaves all as it was.
abbrev pub LookAnswers : History → Worker → History → Worker → Looked → Type 0
LookAnswers h worker new after (look.Done length) = (length ≡ position h) × (after ≡ looked h worker) × (new ≡ h)
LookAnswers h worker new after look.Failed = (after ≡ worker) × (new ≡ h)
LookAnswers h worker new after look.Memory = (after ≡ worker) × (new ≡ h)

-- a call of the store failed
abbrev pub look_failed : Looked → Bool
look_failed (look.Done length) = false
look_failed look.Failed = true
look_failed look.Memory = false

-- ---- an act

-- What an act comes to that has this write.
abbrev pub Tries : Outside → History → Write → History → Acted → Type 0
Tries outside h w new (acted.Put key version) = IsMade outside h w new × (key ≡ w.key) × (version ≡ position new)
Tries outside h w new acted.Idle = ⊥
Tries outside h w new acted.NoView = ⊥
Tries outside h w new (acted.Conflict found) = (found ≡ (slot h w.key).version) × (w.expect ≢ found) × (new ≡ h)
Tries outside h w new (acted.Stale term) = ⊥
Tries outside h w new acted.Full = Agrees h w × (outside.has_room h w ≡ false) × (new ≡ h)
Tries outside h w new acted.Failed = (new ≡ h) ⊎ IsMade outside h w new
Tries outside h w new acted.Memory = new ≡ h

-- The role's first write in the view is such a write.
abbrev pub TriesFirst : Outside → Role → View → History → History → Acted → Type 0
TriesFirst outside role view h new answer = (w : Write) × IsFirst role view (Some w) × Tries outside h w new answer

-- What an act of a role in a view comes to. Want of memory leaves the history as it was.
abbrev pub ActsIn : Outside → Role → View → History → History → Acted → Type 0
ActsIn outside role view h new (acted.Put key version) = TriesFirst outside role view h new (acted.Put key version)
ActsIn outside role view h new acted.Idle = IsFirst role view None × (new ≡ h)
ActsIn outside role view h new acted.NoView = ⊥
ActsIn outside role view h new (acted.Conflict found) = TriesFirst outside role view h new (acted.Conflict found)
ActsIn outside role view h new (acted.Stale term) = ⊥
ActsIn outside role view h new acted.Full = TriesFirst outside role view h new acted.Full
ActsIn outside role view h new acted.Failed = TriesFirst outside role view h new acted.Failed
ActsIn outside role view h new acted.Memory = new ≡ h

-- The same, by the view that the worker holds, if it holds one.
abbrev pub ActsOn : Outside → Role → Option View → History → History → Acted → Type 0
ActsOn outside role None h new answer = (answer ≡ acted.NoView) × (new ≡ h)
ActsOn outside role (Some view) h new answer = ActsIn outside role view h new answer

-- What lies outside, the history before, the worker, the history afterwards, and the answer: whatever the worker's term is,
-- it acts in its own view.
abbrev pub ActAnswers : Outside → History → Worker → History → Acted → Type 0
ActAnswers outside h worker new answer = ActsOn outside worker.role worker.view h new answer

-- a call of the store failed
abbrev pub act_failed : Acted → Bool
act_failed (acted.Put key version) = false
act_failed acted.Idle = false
act_failed acted.NoView = false
act_failed (acted.Conflict found) = false
act_failed (acted.Stale term) = false
act_failed acted.Full = false
act_failed acted.Failed = true
act_failed acted.Memory = false

-- ---- a fenced act

-- The worker isn't stale.
abbrev pub IsFresh : History → Worker → Type 0
IsFresh h worker = is_stale worker.term (present_term h worker) ≡ false

-- Whether the worker may act. Only one that requested its lease asks for the present term.
abbrev pub IsFence : History → Worker → Fence → Type 0
IsFence h worker fence.Fresh = IsFresh h worker
IsFence h worker (fence.Stale term) = (is_stale worker.term (present_term h worker) ≡ true) × (term ≡ present_term h worker)
IsFence h worker fence.Failed = is_fenced worker.term ≡ true
IsFence h worker fence.Memory = Unit {0}

-- what the present term says of a worker that holds this one
abbrev pub term_judged : Term → ℕ → Fence
term_judged term found = if is_stale term found then fence.Stale found else fence.Fresh

-- a call of the store failed
abbrev pub fence_failed : Fence → Bool
fence_failed fence.Fresh = false
fence_failed (fence.Stale term) = false
fence_failed fence.Failed = true
fence_failed fence.Memory = false

-- What a fenced act in a view comes to. The call that fails may be that for the present term.
abbrev pub FencedIn : Outside → Worker → View → History → History → Acted → Type 0
FencedIn outside worker view h new (acted.Put key version) = IsFresh h worker × ActsIn outside worker.role view h new (acted.Put key version)
FencedIn outside worker view h new acted.Idle = IsFresh h worker × ActsIn outside worker.role view h new acted.Idle
FencedIn outside worker view h new acted.NoView = ⊥
FencedIn outside worker view h new (acted.Conflict found) = IsFresh h worker × ActsIn outside worker.role view h new (acted.Conflict found)
FencedIn outside worker view h new (acted.Stale term) =
    (is_stale worker.term (present_term h worker) ≡ true) × (term ≡ present_term h worker) × (new ≡ h)
FencedIn outside worker view h new acted.Full = IsFresh h worker × ActsIn outside worker.role view h new acted.Full
FencedIn outside worker view h new acted.Failed =
    ((is_fenced worker.term ≡ true) × (new ≡ h)) ⊎ (IsFresh h worker × ActsIn outside worker.role view h new acted.Failed)
FencedIn outside worker view h new acted.Memory = new ≡ h

-- The same, by the view that the worker holds, if it holds one. Without one the present term doesn't matter.
abbrev pub FencedOn : Outside → Worker → Option View → History → History → Acted → Type 0
FencedOn outside worker None h new answer = (answer ≡ acted.NoView) × (new ≡ h)
FencedOn outside worker (Some view) h new answer = FencedIn outside worker view h new answer

-- What lies outside, the history before, the worker, the history afterwards, and the answer.
abbrev pub FencedAnswers : Outside → History → Worker → History → Acted → Type 0
FencedAnswers outside h worker new answer = FencedOn outside worker worker.view h new answer

-- ---- a turn

-- What a turn comes to that has this write.
abbrev pub TakesTurn : Outside → History → Write → History → Turned → Type 0
TakesTurn outside h w new turned.Made = IsMade outside h w new
TakesTurn outside h w new turned.Quiet = ⊥
TakesTurn outside h w new turned.Blocked = (w.expect ≢ (slot h w.key).version) × (new ≡ h)
TakesTurn outside h w new turned.Full = Agrees h w × (outside.has_room h w ≡ false) × (new ≡ h)
TakesTurn outside h w new turned.Failed = (new ≡ h) ⊎ IsMade outside h w new
TakesTurn outside h w new turned.Memory = new ≡ h

-- The write of the turn, in the present view, is such a write.
abbrev pub HasTurn : Outside → List ℕ → History → History → Turned → Type 0
HasTurn outside namespace h new answer = (w : Write) × IsTurn (present h namespace) w × TakesTurn outside h w new answer

-- What lies outside, the namespace, the history before and afterwards, and the answer. The call that fails may be that for
-- the view.
abbrev pub TurnAnswers : Outside → List ℕ → History → History → Turned → Type 0
TurnAnswers outside namespace h new turned.Made = HasTurn outside namespace h new turned.Made
TurnAnswers outside namespace h new turned.Quiet = IsQuiet (present h namespace) × (new ≡ h)
TurnAnswers outside namespace h new turned.Blocked = HasTurn outside namespace h new turned.Blocked
TurnAnswers outside namespace h new turned.Full = HasTurn outside namespace h new turned.Full
TurnAnswers outside namespace h new turned.Failed = (new ≡ h) ⊎ HasTurn outside namespace h new turned.Failed
TurnAnswers outside namespace h new turned.Memory = new ≡ h

-- a call of the store failed
abbrev pub turn_failed : Turned → Bool
turn_failed turned.Made = false
turn_failed turned.Quiet = false
turn_failed turned.Blocked = false
turn_failed turned.Full = false
turn_failed turned.Failed = true
turn_failed turned.Memory = false

-- ---- a settle

-- Some role has a write in the present view.
abbrev pub HasMore : List ℕ → History → Type 0
HasMore namespace h = (w : Write) × IsTurn (present h namespace) w

-- What is found after the last turn of a settle, which made so many writes.
abbrev pub RestAnswers : List ℕ → ℕ → History → Settled → Type 0
RestAnswers namespace writes h (settled.Quiet n) = (n ≡ writes) × IsQuiet (present h namespace)
RestAnswers namespace writes h (settled.Unsettled n) = (n ≡ writes) × HasMore namespace h
RestAnswers namespace writes h (settled.Full n) = ⊥
RestAnswers namespace writes h (settled.Failed n) = n ≡ writes
RestAnswers namespace writes h (settled.Memory n) = n ≡ writes

-- The key of the turn's write has another version than the write expects.
abbrev pub IsBlocked : List ℕ → History → Type 0
IsBlocked namespace h = (w : Write) × IsTurn (present h namespace) w × (w.expect ≢ (slot h w.key).version)

-- There is no room for the turn's write.
abbrev pub IsFull : Outside → List ℕ → History → Type 0
IsFull outside namespace h = (w : Write) × IsTurn (present h namespace) w × Agrees h w × (outside.has_room h w ≡ false)

-- The turn's write is made.
abbrev pub IsTaken : Outside → List ℕ → History → History → Type 0
IsTaken outside namespace h new = (w : Write) × IsTurn (present h namespace) w × IsMade outside h w new

-- What lies outside, the namespace, the most turns, the history before and afterwards, and the answer. Each turn before the
-- end made its write. Where the store fails, the write of the turn that failed may be made too.
abbrev pub SettleAnswers : Outside → List ℕ → ℕ → History → History → Settled → Type 0
SettleAnswers outside namespace turns h new (settled.Quiet n) =
    (n ≤ turns) × Turns outside namespace n h new × IsQuiet (present new namespace)
SettleAnswers outside namespace turns h new (settled.Unsettled n) =
    Turns outside namespace n h new × (((n ≡ turns) × HasMore namespace new) ⊎ ((n < turns) × IsBlocked namespace new))
SettleAnswers outside namespace turns h new (settled.Full n) =
    (n < turns) × Turns outside namespace n h new × IsFull outside namespace new
SettleAnswers outside namespace turns h new (settled.Failed n) =
    (mid : History) × (n ≤ turns) × Turns outside namespace n h mid
    × ((new ≡ mid) ⊎ ((n < turns) × IsTaken outside namespace mid new))
SettleAnswers outside namespace turns h new (settled.Memory n) = (n ≤ turns) × Turns outside namespace n h new

-- a call of the store failed
abbrev pub settle_failed : Settled → Bool
settle_failed (settled.Quiet n) = false
settle_failed (settled.Unsettled n) = false
settle_failed (settled.Full n) = false
settle_failed (settled.Failed n) = true
settle_failed (settled.Memory n) = false
