-- Runs over a store that tells what it holds only add writes.
use Rattle.std.proofs.Common.{◌≡◌, ◌+◌, Bool, true, false, ℕ, List, [], ◌∷◌, ◌++◌, refl, ap, ◌∙◌, arith}
use Rattle.cluster_objects.specs.declared.objects.Write.{Write}
use Rattle.cluster_history.specs.History.{After, History, after_all, position}
use Rattle.lease_fence.specs.declared.terms.Term.{Term}
use Rattle.event_script.specs.declared.events.Event.{Event}
use Rattle.controller_rules.specs.Enabled.{IsQuiet}
use Rattle.run_rules.specs.Acting as acting
use Rattle.run_rules.specs.Leasing as leasing
use Rattle.run_rules.specs.Leasing.{write_of}
use Rattle.run_rules.specs.declared.outcomes.Outcome.{Outcome}
use Rattle.run_rules.specs.declared.outcomes.Outcome.TheVariants.{Arrived, Conflict, Done, Fault, HeldUntil, Idle, Leased, Looked, NoView, NoWorker, Put, Refused, Restarted, Settled, Stale}
use Rattle.run_rules.specs.Runs as runs
use Rattle.run_rules.specs.Settling as settling
use Rattle.run_rules.specs.States.{Asking, IsLeft, Outside, State, With, Without, begun, present}
use Rattle.run_rules.specs.declared.workers.Worker.{Worker}

-- ---- histories that go on from one another

abbrev pub Extends : History → History → Type 0
Extends h new = (ws : List Write) × (new ≡ after_all h ws)

both : (h : History) (ws vs : List Write) → after_all (after_all h ws) vs ≡ after_all h (ws ++ vs)
both h [] vs = refl
both h (w ∷ ws) vs = both (After w h) ws vs

same : (h : History) → Extends h h
same h = ([], refl)

one : (w : Write) (h : History) → Extends h (After w h)
one w h = (w ∷ [], refl)

then : (h mid new : History) → Extends h mid → Extends mid new → Extends h new
then h mid new first second =
    (first.0 ++ second.0, second.1 ∙ ap (λ (g : History). after_all g second.0) first.1 ∙ both h first.0 second.0)

-- ---- what each part leaves

module _ (outside : Outside) (tells : outside.tells ≡ true) where
  left : (h : History) (w : Write) (new : History) → IsLeft outside h w new → Extends h new
  left h w new (Without again) = ([], again tells)
  left h w new (With agrees room again) = (w ∷ [], again tells)

  acts : (h : History) (worker : Worker) (new : History) (outcome : Outcome) → acting.Acts outside h worker new outcome → Extends h new
  acts h worker new outcome (acting.HasNoView e) = same h
  acts h worker new outcome (acting.IsStale view holds stale) = same h
  acts h worker new outcome (acting.HasNone view may first) = same h
  acts h worker new outcome (acting.Conflicts view w may first other) = same h
  acts h worker new outcome (acting.Makes view w may first agrees room) = one w h
  acts h worker new outcome (acting.Loses view w end may first is) = left h w end is
  acts h worker new outcome (acting.TermFails view end holds fenced again) = ([], again tells)

  turns : (namespace : List ℕ) (n : ℕ) (h new : History) → settling.Turns outside namespace n h new → Extends h new
  turns namespace n h new (settling.NoTurn start) = same start
  turns namespace n h new (settling.Turn m w start end is agrees room more) =
      let (ws, e) = turns namespace m (After w start) end more in (w ∷ ws, e)

  settles : (namespace : List ℕ) (most : ℕ) (h new : History) (outcome : Outcome)
      → settling.Settles outside namespace most h new outcome → Extends h new
  settles namespace most h new outcome (settling.Rests n end within all quiet) = turns namespace n h end all
  settles namespace most h new outcome (settling.Ends end w all more) = turns namespace most h end all
  settles namespace most h new outcome (settling.LookFails n mid end within all again) =
      then h mid end (turns namespace n h mid all) ([], again tells)
  settles namespace most h new outcome (settling.Blocked n end w within all is other) = turns namespace n h end all
  settles namespace most h new outcome (settling.Loses n mid w end within all is lost) =
      then h mid end (turns namespace n h mid all) (left mid w end lost)

  leases : (h : History) (number : ℕ) (worker : Worker) (now keep : ℕ) (new : History) (term : Term) (outcome : Outcome)
      → leasing.Leases outside h number worker now keep new term outcome → Extends h new
  leases h number worker now keep new term outcome (leasing.Grants lease gives room) = one (write_of h worker lease) h
  leases h number worker now keep new term outcome (leasing.Refuses until gives) = same h
  leases h number worker now keep new term outcome (leasing.Fails end again) = ([], again tells)
  leases h number worker now keep new term outcome (leasing.Loses lease end gives lost) =
      left h (write_of h worker lease) end lost

  pub passes : (Asks : Asking) (s : State) (e : Event) (new : State) (outcome : Outcome) → runs.Passes Asks outside s e new outcome
      → Extends s.history new.history
  passes Asks s e new outcome (runs.Writes by w users asks room) = one w s.history
  passes Asks s e new outcome (runs.Refuses by reason users asks) = same s.history
  passes Asks s e new outcome (runs.Loses by w end users asks lost) = left s.history w end lost
  passes Asks s e new outcome (runs.Fails by end users again) = ([], again tells)
  passes Asks s e new outcome (runs.Comes by role namespace is) = same s.history
  passes Asks s e new outcome (runs.Looks number worker there) = same s.history
  passes Asks s e new outcome (runs.LookFails number worker end there again) = ([], again tells)
  passes Asks s e new outcome (runs.Acted number worker end says there is) = acts s.history worker end says is
  passes Asks s e new outcome (runs.HasSettled namespace most end says is) =
      settles namespace (settling.turns_of most) s.history end says is
  passes Asks s e new outcome (runs.Requested number now keep worker end term says there is) =
      leases s.history number worker now keep end term says is
  passes Asks s e new outcome (runs.Restarts end again) = ([], again tells)
  passes Asks s e new outcome (runs.Misses by number named none) = same s.history

  all_pass : (Asks : Asking) (s : State) (es : List Event) (new : State) (outcomes : List Outcome)
      → runs.AllPass Asks outside s es new outcomes → Extends s.history new.history
  all_pass Asks s es new outcomes (runs.NoEvents start) = same start.history
  all_pass Asks s es new outcomes (runs.Next start mid end e more outcome rest first later) =
      then start.history mid.history end.history (passes Asks start e mid outcome first) (all_pass Asks mid more end rest later)

  may_leave : (Asks : Asking) (s : State) (e : Event) (new : History) → runs.MayLeave Asks outside s e new → Extends s.history new
  may_leave Asks s e new runs.Nothing = same s.history
  may_leave Asks s e new (runs.Something end outcome is) = passes Asks s e end outcome is

  -- for whatever users' events ask
  pub extend : (Asks : Asking) (h new : History) (es : List Event) (outcomes : List Outcome)
      → runs.Runs Asks outside h es new outcomes → Extends h new
  extend Asks h new es outcomes (runs.Completes end says all) = all_pass Asks (begun h) es end says all
  extend Asks h new es outcomes (runs.EndsAt earlier e later mid end says split all leaves) =
      then h mid.history end (all_pass Asks (begun h) earlier mid says all) (may_leave Asks mid e end leaves)

-- ---- settles

counted : (outside : Outside) (namespace : List ℕ) (n : ℕ) (h new : History) → settling.Turns outside namespace n h new
    → position new ≡ position h + n
counted outside namespace n h new (settling.NoTurn start) = omega arith
counted outside namespace n h new (settling.Turn m w start end is agrees room more) =
    omega (arith, counted outside namespace m (After w start) end more)

-- how many writes an outcome tells of
abbrev told : Outcome → ℕ
told (Done key version) = 0
told (Refused reason) = 0
told (Arrived number) = 0
told (Looked length) = 0
told (Put key version) = 0
told Idle = 0
told NoView = 0
told (Conflict found) = 0
told (Stale term) = 0
told (Settled writes quiet) = writes
told (Leased term until) = 0
told (HeldUntil until) = 0
told Restarted = 0
told NoWorker = 0
told Fault = 0

abbrev is_settled : Outcome → Bool
is_settled (Done key version) = false
is_settled (Refused reason) = false
is_settled (Arrived number) = false
is_settled (Looked length) = false
is_settled (Put key version) = false
is_settled Idle = false
is_settled NoView = false
is_settled (Conflict found) = false
is_settled (Stale term) = false
is_settled (Settled writes quiet) = true
is_settled (Leased term until) = false
is_settled (HeldUntil until) = false
is_settled Restarted = false
is_settled NoWorker = false
is_settled Fault = false

abbrev tells_quiet : Outcome → Bool
tells_quiet (Done key version) = false
tells_quiet (Refused reason) = false
tells_quiet (Arrived number) = false
tells_quiet (Looked length) = false
tells_quiet (Put key version) = false
tells_quiet Idle = false
tells_quiet NoView = false
tells_quiet (Conflict found) = false
tells_quiet (Stale term) = false
tells_quiet (Settled writes quiet) = quiet
tells_quiet (Leased term until) = false
tells_quiet (HeldUntil until) = false
tells_quiet Restarted = false
tells_quiet NoWorker = false
tells_quiet Fault = false

none : {T : Type 0} → false ≡ true → T
none h = absurd (let bad : false ≡ true = h in cc)

pub count : (outside : Outside) (namespace : List ℕ) (most : ℕ) (h new : History) (outcome : Outcome)
    → settling.Settles outside namespace most h new outcome → is_settled outcome ≡ true → position new ≡ position h + told outcome
count outside namespace most h new outcome (settling.Rests n end within all quiet) says = counted outside namespace n h end all
count outside namespace most h new outcome (settling.Ends end w all more) says = counted outside namespace most h end all
count outside namespace most h new outcome (settling.LookFails n mid end within all again) says = none says
count outside namespace most h new outcome (settling.Blocked n end w within all is other) says = counted outside namespace n h end all
count outside namespace most h new outcome (settling.Loses n mid w end within all is lost) says = none says

pub is_quiet : (outside : Outside) (namespace : List ℕ) (most : ℕ) (h new : History) (outcome : Outcome)
    → settling.Settles outside namespace most h new outcome → tells_quiet outcome ≡ true → IsQuiet (present new namespace)
is_quiet outside namespace most h new outcome (settling.Rests n end within all quiet) says = quiet
is_quiet outside namespace most h new outcome (settling.Ends end w all more) says = absurd (none says)
is_quiet outside namespace most h new outcome (settling.LookFails n mid end within all again) says = absurd (none says)
is_quiet outside namespace most h new outcome (settling.Blocked n end w within all is other) says = absurd (none says)
is_quiet outside namespace most h new outcome (settling.Loses n mid w end within all is lost) says = absurd (none says)
