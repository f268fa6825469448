-- The views that workers hold are views of the history.
use Rattle.std.proofs.Common.{◌≡◌, ◌⊎◌, ◌≤◌, ◌+◌, true, List, [], ◌∷◌, ◌++◌, ℕ, zero, suc, Some, None, map, refl, sym, ap, ◌∙◌, inl, inr, subst, slice_get, arith}
use Rattle.std.specs.List.{filter, slice_set}
use Rattle.cluster_objects.specs.declared.objects.Write.{Write}
use Rattle.cluster_history.specs.History.{After, History, Start, after_all, base_of, position, state}
use Rattle.cluster_history.specs.Views.{View, is_visible, view}
use Rattle.cluster_history.specs.declared.slots.Base.{Base}
use Rattle.cluster_history.proofs.Seeing.{first-after_all, longer}
use Rattle.event_script.specs.declared.events.Event.{Event}
use Rattle.run_rules.specs.declared.outcomes.Outcome.{Outcome}
use Rattle.run_rules.specs.Runs as runs
use Rattle.run_rules.specs.States.{Asking, Outside, State, arrived, begun, looked, present, restarted}
use Rattle.run_rules.specs.declared.workers.Worker.{Worker}
use Rattle.run_rules.proofs.Extending.{Extends, passes}

-- ---- one worker

-- the view that the worker holds, if it holds one, is one of the history
abbrev pub Held : History → Worker → Type 0
Held h worker =
    (held : View) → worker.view ≡ Some held
    → (a : ℕ) × ((base_of h).length ≤ a) × (a ≤ position h) × (held ≡ view h worker.namespace a)

base_kept : (h : History) (ws : List Write) → base_of (after_all h ws) ≡ base_of h
base_kept h [] = refl
base_kept h (w ∷ ws) = base_kept (After w h) ws

base_low : (h : History) → (base_of h).length ≤ position h
base_low (Start base) = omega arith
base_low (After w h) = omega (arith, base_low h)

abbrev seen : List ℕ → ℕ → History → View
seen namespace a g = record { namespace = namespace; length = a; slots = filter (λ e. is_visible namespace e.0) (state g) }

later : (h : History) (ws : List Write) (worker : Worker) → Held h worker → Held (after_all h ws) worker
later h ws worker old held is =
    let (a, since, until, same) = old held is in (
      a,
      subst (λ (b : Base). b.length ≤ a) (sym (base_kept h ws)) since,
      omega (arith, until, longer h ws),
      same ∙ ap (seen worker.namespace a) (sym (first-after_all h ws a until)),
    )

on : (h new : History) (worker : Worker) → Extends h new → Held h worker → Held new worker
on h new worker goes old = subst (λ (g : History). Held g worker) (sym goes.1) (later h goes.0 worker old)

same_view : (v w : View) → Some v ≡ Some w → v ≡ w
same_view v w e = ap (λ o. elim o [ None ↦ v | Some x ↦ x ]) e

just_looked : (h : History) (worker : Worker) → Held h (looked h worker)
just_looked h worker held is =
    (position h, base_low h, omega arith, sym (same_view (present h worker.namespace) held is))

no_view : (h : History) (worker : Worker) → worker.view ≡ None → Held h worker
no_view h worker none held is = absurd (let bad : None ≡ Some held = sym none ∙ is in cc)

-- ---- all of them

abbrev pub Each : History → List Worker → Type 0
Each h workers = (i : ℕ) (worker : Worker) → slice_get workers i ≡ Some worker → Held h worker

same_worker : (v w : Worker) → Some v ≡ Some w → w ≡ v
same_worker v w e = sym (ap (λ o. elim o [ None ↦ v | Some x ↦ x ]) e)

set_get : (ws : List Worker) (n i : ℕ) (x w : Worker) → slice_get (slice_set ws n x) i ≡ Some w → (w ≡ x) ⊎ (slice_get ws i ≡ Some w)
set_get [] n i x w h = inr h
set_get (y ∷ ws) zero zero x w h = inl (same_worker x w h)
set_get (y ∷ ws) zero (suc i) x w h = inr h
set_get (y ∷ ws) (suc n) zero x w h = inr h
set_get (y ∷ ws) (suc n) (suc i) x w h = set_get ws n i x w h

push_get : (ws : List Worker) (i : ℕ) (x w : Worker) → slice_get (ws ++ x ∷ []) i ≡ Some w → (w ≡ x) ⊎ (slice_get ws i ≡ Some w)
push_get [] zero x w h = inl (same_worker x w h)
push_get [] (suc i) x w h = absurd (let bad : None ≡ Some w = h in cc)
push_get (y ∷ ws) zero x w h = inr h
push_get (y ∷ ws) (suc i) x w h = push_get ws i x w h

restarted_get : (ws : List Worker) (i : ℕ) (w : Worker) → slice_get (map restarted ws) i ≡ Some w → (y : Worker) × (w ≡ restarted y)
restarted_get [] i w h = absurd (let bad : None ≡ Some w = h in cc)
restarted_get (y ∷ ws) zero w h = (y, same_worker (restarted y) w h)
restarted_get (y ∷ ws) (suc i) w h = restarted_get ws i w h

kept : (h new : History) (ws : List Worker) → Extends h new → Each h ws → Each new ws
kept h new ws goes each i worker at = on h new worker goes (each i worker at)

-- ---- events

module _ (outside : Outside) where
  keeps : (Asks : Asking) (s : State) (e : Event) (new : State) (outcome : Outcome) → runs.Passes Asks outside s e new outcome
      → Extends s.history new.history → Each s.history s.workers → Each new.history new.workers
  keeps Asks s e new outcome (runs.Writes by w users asks room) goes each = kept s.history (After w s.history) s.workers goes each
  keeps Asks s e new outcome (runs.Refuses by reason users asks) goes each = each
  keeps Asks s e new outcome (runs.Loses by w end users asks lost) goes each = kept s.history end s.workers goes each
  keeps Asks s e new outcome (runs.Fails by end users again) goes each = kept s.history end s.workers goes each
  keeps Asks s e new outcome (runs.Comes by role namespace is) goes each = λ i w at.
      elim (push_get s.workers i (arrived role namespace) w at) [
        | inl e ↦ subst (Held s.history) (sym e) (no_view s.history (arrived role namespace) refl)
        | inr old ↦ each i w old
      ]
  keeps Asks s e new outcome (runs.Looks number worker there) goes each = λ i w at.
      elim (set_get s.workers number i (looked s.history worker) w at) [
        | inl e ↦ subst (Held s.history) (sym e) (just_looked s.history worker)
        | inr old ↦ each i w old
      ]
  keeps Asks s e new outcome (runs.LookFails number worker end there again) goes each = kept s.history end s.workers goes each
  keeps Asks s e new outcome (runs.Acted number worker end says there is) goes each = kept s.history end s.workers goes each
  keeps Asks s e new outcome (runs.HasSettled namespace most end says is) goes each = kept s.history end s.workers goes each
  keeps Asks s e new outcome (runs.Requested number now keep worker end term says there is) goes each = λ i w at.
      elim (set_get s.workers number i (record worker { term = term }) w at) [
        | inl e ↦ subst (Held end) (sym e) (on s.history end worker goes (each number worker there))
        | inr old ↦ on s.history end w goes (each i w old)
      ]
  keeps Asks s e new outcome (runs.Restarts end again) goes each = λ i w at.
      let (y, e) = restarted_get s.workers i w at in
      subst (Held end) (sym e) (no_view end (restarted y) refl)
  keeps Asks s e new outcome (runs.Misses by number named none) goes each = each

  all_keep : (tells : outside.tells ≡ true) (Asks : Asking) (s : State) (es : List Event) (new : State) (outcomes : List Outcome)
      → runs.AllPass Asks outside s es new outcomes → Each s.history s.workers → Each new.history new.workers
  all_keep tells Asks s es new outcomes (runs.NoEvents start) each = each
  all_keep tells Asks s es new outcomes (runs.Next start mid end e more outcome rest first behind) each =
      all_keep tells Asks mid more end rest behind
      (keeps Asks start e mid outcome first (passes outside tells Asks start e mid outcome first) each)

  -- for whatever users' events ask
  pub hold : (tells : outside.tells ≡ true) (Asks : Asking) (h : History) (es : List Event) (new : State) (outcomes : List Outcome)
      → runs.AllPass Asks outside (begun h) es new outcomes → Each new.history new.workers
  hold tells Asks h es new outcomes all =
      all_keep tells Asks (begun h) es new outcomes all (λ i worker at. absurd (let bad : None ≡ Some worker = at in cc))
