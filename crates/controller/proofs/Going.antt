-- What the calls answer goes by the rules of runs.
use Rattle.std.proofs.Common.{◌≡◌, true, false, ℕ, List, Option, Some, None, sym, ap, subst, ◌∙◌, inl, inr, slice_get, arith}
use Rattle.std.specs.Option.{IfSome}
use Rattle.cluster_objects.specs.declared.keys.Key.{Key}
use Rattle.cluster_objects.specs.declared.objects.Write.{Write}
use Rattle.cluster_history.specs.History.{After, History, position}
use Rattle.cluster_history.specs.Views.{View}
use Rattle.object_store.specs.Puts.{Agrees}
use Rattle.lease_fence.specs.declared.terms.Term.{Term}
use Rattle.lease_fence.specs.declared.terms.Term.TheVariants as terms
use Rattle.event_script.specs.declared.events.Event.TheVariants as event
use Rattle.controller_rules.specs.Enabled.{IsFirst}
use Rattle.run_rules.specs.Acting.{Acts, Conflicts, HasNoView, HasNone, IsStale, Loses, Makes, MayAct, TermFails, is_fenced, is_stale, present_term}
use Rattle.run_rules.specs.Laws.{anything}
use Rattle.run_rules.specs.declared.outcomes.Outcome.TheVariants as line
use Rattle.run_rules.specs.declared.outcomes.Outcome.{Outcome}
use Rattle.run_rules.specs.Runs as runs
use Rattle.run_rules.specs.Settling as settling
use Rattle.run_rules.specs.Settling.{Settles, Turns}
use Rattle.run_rules.specs.States.{IsReopened, Outside, State, With, Without, looked, with_history, with_worker}
use Rattle.run_rules.specs.declared.workers.Worker.{Worker}
use Rattle.controller.specs.Answers.{ActsOn, FencedOn, LookAnswers, SettleAnswers, TriesFirst}
use Rattle.controller.specs.Laws.{act_line, settle_line}
use Rattle.controller.specs.declared.answers.Acted.{Acted}
use Rattle.controller.specs.declared.answers.Acted.TheVariants as acted
use Rattle.controller.specs.declared.answers.Looked.TheVariants as look
use Rattle.controller.specs.declared.answers.Settled.{Settled}
use Rattle.controller.specs.declared.answers.Settled.TheVariants as settled

-- what is so of each line is so of this one
pub of_line : (l : Option Outcome) (o : Outcome) (P : Outcome → Type 0) → IfSome l P → l ≡ Some o → P o
of_line l o P all is = subst (λ (x : Option Outcome). IfSome x P) is all

-- ---- looks

pub look_goes : (outside : Outside) (s : State) (number : ℕ) (worker after : Worker) (new : History) (length : ℕ)
    → slice_get s.workers number ≡ Some worker → LookAnswers s.history worker new after (look.Done length)
    → runs.Passes anything outside s (event.Look number) (with_worker (with_history s new) number after) (line.Looked length)
look_goes outside s number worker after new length there (counted, seen, same) =
    subst (λ (g : History). runs.Passes anything outside s (event.Look number) (with_worker (with_history s g) number after) (line.Looked length)) (sym same)
    (subst (λ (x : Worker). runs.Passes anything outside s (event.Look number) (with_worker s number x) (line.Looked length)) (sym seen)
    (subst (λ (n : ℕ). runs.Passes anything outside s (event.Look number) (with_worker s number (looked s.history worker)) (line.Looked n)) (sym counted)
    (runs.Looks number worker there)))

pub look_fails : (outside : Outside) (s : State) (number : ℕ) (worker after : Worker) (mid new : History)
    → slice_get s.workers number ≡ Some worker → LookAnswers s.history worker mid after look.Failed → IsReopened outside mid new
    → (after ≡ worker) × runs.Passes anything outside s (event.Look number) (with_history s new) line.Fault
look_fails outside s number worker after mid new there (kept, same) again =
    (kept, runs.LookFails number worker new there (λ tells. again tells ∙ same))

-- ---- acts

module _ (outside : Outside) (h : History) (worker : Worker) where
  makes : (new : History) (view : View) (w : Write) (key : Key) (version : ℕ) → MayAct h worker view
      → IsFirst worker.role view (Some w) → Agrees h w → outside.has_room h w ≡ true → new ≡ After w h → key ≡ w.key
      → version ≡ position new → Acts outside h worker new (line.Put key version)
  makes new view w key version may first agrees room stands named counted =
      subst (λ (g : History). version ≡ position g → Acts outside h worker g (line.Put key version)) (sym stands)
      (λ at.
      subst (λ (k : Key). Acts outside h worker (After w h) (line.Put k version)) (sym named)
      (subst (λ (n : ℕ). Acts outside h worker (After w h) (line.Put w.key n)) (sym at) (Makes view w may first agrees room)))
      counted

  -- the view that the worker holds, if it holds one
  pub act_goes : (new : History) (v : Option View) (answer : Acted) → worker.view ≡ v → FencedOn outside worker v h new answer
      → IfSome (act_line answer) (λ o. Acts outside h worker new o)
  act_goes new None answer holds (is, same) =
      subst (λ (a : Acted). IfSome (act_line a) (λ o. Acts outside h worker new o)) (sym is)
      (subst (λ (g : History). Acts outside h worker g line.NoView) (sym same) (HasNoView holds))
  act_goes new (Some view) (acted.Put key version) holds (fresh, (w, first, (made, named, counted))) =
      makes new view w key version (record { holds = holds; fresh = fresh }) first made.0 made.1 made.2 named counted
  act_goes new (Some view) acted.Idle holds (fresh, (none, same)) =
      subst (λ (g : History). Acts outside h worker g line.Idle) (sym same)
      (HasNone view (record { holds = holds; fresh = fresh }) none)
  act_goes new (Some view) acted.NoView holds is = absurd is
  act_goes new (Some view) (acted.Conflict found) holds (fresh, (w, first, (there, other, same))) =
      subst (λ (g : History). Acts outside h worker g (line.Conflict found)) (sym same)
      (subst (λ (n : ℕ). Acts outside h worker h (line.Conflict n)) (sym there)
      (Conflicts view w (record { holds = holds; fresh = fresh }) first (λ e. other (e ∙ sym there))))
  act_goes new (Some view) (acted.Stale term) holds (stale, there, same) =
      subst (λ (g : History). Acts outside h worker g (line.Stale term)) (sym same)
      (subst (λ (n : ℕ). Acts outside h worker h (line.Stale n)) (sym there) (IsStale view holds stale))
  act_goes new (Some view) acted.Full holds is = tt
  act_goes new (Some view) acted.Failed holds is = tt
  act_goes new (Some view) acted.Memory holds is = tt

  lost : (mid new : History) (view : View) → MayAct h worker view → TriesFirst outside worker.role view h mid acted.Failed
      → IsReopened outside mid new → Acts outside h worker new line.Fault
  lost mid new view may (w, first, inl same) again = Loses view w new may first (Without (λ tells. again tells ∙ same))
  lost mid new view may (w, first, inr made) again =
      Loses view w new may first (With made.0 made.1 (λ tells. again tells ∙ made.2))

  pub act_fails : (mid new : History) (v : Option View) → worker.view ≡ v → FencedOn outside worker v h mid acted.Failed
      → IsReopened outside mid new → Acts outside h worker new line.Fault
  act_fails mid new None holds (is, same) again = absurd (let bad : acted.Failed ≡ acted.NoView = is in cc)
  act_fails mid new (Some view) holds (inl (fenced, same)) again =
      TermFails view new holds fenced (λ tells. again tells ∙ same)
  act_fails mid new (Some view) holds (inr (fresh, tries)) again =
      lost mid new view (record { holds = holds; fresh = fresh }) tries again

  not_stale : (held : Term) (found : ℕ) → held ≡ terms.Free → is_stale held found ≡ true → ⊥
  not_stale held found free stale =
      let bad : false ≡ true = ap (λ (t : Term). is_stale t found) (sym free) ∙ stale in cc

  not_fenced : (held : Term) → held ≡ terms.Free → is_fenced held ≡ true → ⊥
  not_fenced held free fenced = let bad : false ≡ true = ap (λ (t : Term). is_fenced t) (sym free) ∙ fenced in cc

  pub act_free : (new : History) (v : Option View) (answer : Acted) → worker.term ≡ terms.Free
      → FencedOn outside worker v h new answer → ActsOn outside worker.role v h new answer
  act_free new None answer free is = is
  act_free new (Some view) (acted.Put key version) free is = is.1
  act_free new (Some view) acted.Idle free is = is.1
  act_free new (Some view) acted.NoView free is = is
  act_free new (Some view) (acted.Conflict found) free is = is.1
  act_free new (Some view) (acted.Stale term) free is = not_stale worker.term (present_term h worker) free is.0
  act_free new (Some view) acted.Full free is = is.1
  act_free new (Some view) acted.Failed free (inl is) = absurd (not_fenced worker.term free is.0)
  act_free new (Some view) acted.Failed free (inr is) = is.1
  act_free new (Some view) acted.Memory free is = is

-- ---- settles

module _ (outside : Outside) (namespace : List ℕ) (turns : ℕ) (h : History) where
  pub settle_goes : (new : History) (answer : Settled) → SettleAnswers outside namespace turns h new answer
      → IfSome (settle_line answer) (λ o. Settles outside namespace turns h new o)
  settle_goes new (settled.Quiet n) (within, all, quiet) = settling.Rests n new within all quiet
  settle_goes new (settled.Unsettled n) (all, inl (last, (w, is))) =
      subst (λ (k : ℕ). Settles outside namespace turns h new (line.Settled k false)) (sym last)
      (settling.Ends new w (subst (λ (k : ℕ). Turns outside namespace k h new) last all) is)
  settle_goes new (settled.Unsettled n) (all, inr (before, (w, is, other))) =
      settling.Blocked n new w (omega arith) all is other
  settle_goes new (settled.Full n) is = tt
  settle_goes new (settled.Failed n) is = tt
  settle_goes new (settled.Memory n) is = tt

  pub settle_fails : (mid new : History) (writes : ℕ) → SettleAnswers outside namespace turns h mid (settled.Failed writes)
      → IsReopened outside mid new → Settles outside namespace turns h new line.Fault
  settle_fails mid new writes (last, within, all, inl same) again =
      settling.LookFails writes last new within all (λ tells. again tells ∙ same)
  settle_fails mid new writes (last, within, all, inr (before, (w, is, made))) again =
      settling.Loses writes last w new before all is (With made.0 made.1 (λ tells. again tells ∙ made.2))
