-- What one write makes of each plan, and what many make of it.
use Rattle.std.proofs.Common.{◌≡◌, ◌⊎◌, ⊎_elim, Bool, true, false, List, ℕ, Some, None, refl, sym, ap, ◌∙◌, inl, inr, subst}
use Rattle.std.specs.Option.{option_or}
use Rattle.std.specs.List.{slice_get}
use Rattle.cluster_objects.specs.Kinds.{as_plan, is_plan_key}
use Rattle.cluster_objects.specs.declared.keys.Key.{Key}
use Rattle.cluster_objects.specs.declared.objects.Object.{Object}
use Rattle.cluster_objects.specs.declared.objects.Write.{Write}
use Rattle.cluster_objects.specs.declared.objects.Writer.TheVariants as writer
use Rattle.cluster_objects.specs.declared.plans.Step.{Step}
use Rattle.cluster_objects.specs.declared.plans.StepState.{StepState}
use Rattle.cluster_objects.specs.declared.plans.StepState.TheVariants.{Unknown, Aimed, Created, Present, Overtaken}
use Rattle.cluster_objects.specs.declared.plans.PlanPhase.{PlanPhase}
use Rattle.cluster_objects.specs.declared.plans.PlanPhase.TheVariants as phase
use Rattle.cluster_objects.specs.declared.plans.PlanStatus.{PlanStatus}
use Rattle.cluster_history.specs.History.{History, After, slot, first_writes}
use Rattle.lawful_history.specs.Installing.{with_step}
use Rattle.lawful_history.specs.Lawful.{last_plan, IsNew, StateLater}
use Rattle.lawful_history.specs.Sound.{IsLawful}
use Rattle.lawful_history.proofs.Law.{lawful-past}
use Rattle.lawful_history.proofs.Moves.{with_step_cases, with_step-later}
use Rattle.lawful_history.proofs.Older.{IsOlder, now, back, first_older}
use Rattle.lawful_history.proofs.Slots.{same_or_other, last_plan-written, last_plan-other}
use Rattle.lawful_history.proofs.Steps.{Some-same}
use Rattle.history_laws.specs.Edges.{StateEdge, PhaseEdge, Begins, BeginsApproved, Completes, Fails, PlanEdge, Stays, BecomesApproved, MovesPhase, MovesStep, StepEdge}
use Rattle.history_laws.proofs.Moving.{Class, IsApart, IsFirst, GoesWith, PutsOne, class_of}

-- one write leaves a plan on an edge
abbrev pub NextPlan : History → Write → Key → PlanStatus → Type 0
NextPlan h w key plan = (new : PlanStatus) × (last_plan (After w h) key ≡ Some new) × PlanEdge plan new

edge_of : (h : History) (w : Write) (key : Key) (plan : PlanStatus) → is_plan_key key ≡ true → last_plan h key ≡ Some plan → Class h w → NextPlan h w key plan
edge_of h w key plan kind last class = elim (same_or_other w h key) [
  | inr other ↦ (plan, last_plan-other w h key other.0 ∙ last, Stays refl)
  | inl same ↦ by_class same.0 class
]
  where
    written : w.key ≡ key → last_plan (After w h) key ≡ option_or (as_plan w.object) (last_plan h key)
    written e = last_plan-written w h key e

    by_class : w.key ≡ key → Class h w → (new : PlanStatus) × (last_plan (After w h) key ≡ Some new) × PlanEdge plan new
    by_class e (IsApart apart) = elim apart.kind [
      | inl is_none ↦ absurd (let t : is_plan_key key ≡ false = subst (λ k. is_plan_key k ≡ false) e is_none in cc)
      | inr none ↦ (plan, written e ∙ ap (λ o. option_or o (last_plan h key)) (ap as_plan none) ∙ last, Stays refl)
    ]
    by_class e (IsFirst first) = absurd (let t : None ≡ Some plan = sym (subst (λ k. last_plan h k ≡ None) e first.none) ∙ last in cc)
    by_class e (GoesWith goes) =
        let was : goes.plan ≡ plan = Some-same _ _ _ (subst (λ k. last_plan h k ≡ Some goes.plan) e goes.last) last in
        (goes.new, written e ∙ ap (λ o. option_or o (last_plan h key)) goes.put, subst (λ (p : PlanStatus). PlanEdge p goes.new) was goes.edge)
    by_class e (PutsOne puts) = absurd (let t : is_plan_key key ≡ false = subst (λ k. is_plan_key k ≡ false) e puts.no_plan in cc)

pub next_plan : (is_valid : List ℕ → Bool) (h : History) (w : Write) (key : Key) (plan : PlanStatus) → IsLawful is_valid (After w h) → is_plan_key key ≡ true → last_plan h key ≡ Some plan → NextPlan h w key plan
next_plan is_valid h w key plan lawful kind last = edge_of h w key plan kind last (class_of is_valid h w lawful)

-- the edge to the plan that is the newest afterwards
pub edge : (is_valid : List ℕ → Bool) (h : History) (w : Write) (key : Key) (plan new : PlanStatus) → IsLawful is_valid (After w h) → is_plan_key key ≡ true → last_plan h key ≡ Some plan → last_plan (After w h) key ≡ Some new → PlanEdge plan new
edge is_valid h w key plan new lawful kind last is = let next = next_plan is_valid h w key plan lawful kind last in subst (λ (p : PlanStatus). PlanEdge plan p) (Some-same _ _ _ next.1 is) next.2

state_stays : (x : StepState) → StateEdge x x
state_stays Unknown = inl refl
state_stays (Aimed v) = inl refl
state_stays Created = refl
state_stays Present = refl
state_stays Overtaken = refl

step_stays : (s : Step) → StepEdge s s
step_stays s = record { key = refl; body = refl; made = refl; state = state_stays s.state }

edge_later : (x y : StepState) → StateEdge x y → StateLater x y
edge_later Unknown y e = tt
edge_later (Aimed v) y e = e
edge_later Created y e = e
edge_later Present y e = e
edge_later Overtaken y e = e

same_steps : (plan new : PlanStatus) (i : ℕ) (s : Step) → new.steps ≡ plan.steps → slice_get plan.steps i ≡ Some s → (t : Step) × (slice_get new.steps i ≡ Some t) × StepEdge s t
same_steps plan new i s e at = (s, ap (λ (xs : List Step). slice_get xs i) e ∙ at, step_stays s)

one_step : (plan : PlanStatus) (j : ℕ) (u : Step) (x : StepState) → slice_get plan.steps j ≡ Some u → StateEdge u.state x → (i : ℕ) (s : Step) → slice_get plan.steps i ≡ Some s
    → (t : Step) × (slice_get (with_step plan j u x).steps i ≡ Some t) × StepEdge s t
one_step plan j u x there moves i s at =
    let found = (with_step-later plan j u x there (edge_later u.state x moves)).steps i s at in (
      found.0,
      found.1,
      ⊎_elim
          (λ c.
          let same : u ≡ s = Some-same _ _ _ there (subst (λ n. slice_get plan.steps n ≡ Some s) c.0 at) in
          subst (λ (t : Step). StepEdge s t) (sym c.1) (subst (λ (r : Step). StepEdge r (record u { state = x })) same (record { key = refl; body = refl; made = refl; state = moves })))
          (λ c. subst (λ (t : Step). StepEdge s t) (Some-same _ _ _ at c.1) (step_stays s))
          (with_step_cases plan j u x there i found.0 found.1),
    )

pub step_edge : (plan new : PlanStatus) (i : ℕ) (s : Step) → PlanEdge plan new → slice_get plan.steps i ≡ Some s → (t : Step) × (slice_get new.steps i ≡ Some t) × StepEdge s t
step_edge plan new i s (Stays e) at = same_steps plan new i s (ap (λ (p : PlanStatus). p.steps) e) at
step_edge plan new i s (BecomesApproved e) at = same_steps plan new i s (ap (λ (p : PlanStatus). p.steps) e) at
step_edge plan new i s (MovesPhase x p e) at = same_steps plan new i s (ap (λ (p : PlanStatus). p.steps) e) at
step_edge plan new i s (MovesStep j u x installing there moves e) at =
    subst (λ (p : PlanStatus). (t : Step) × (slice_get p.steps i ≡ Some t) × StepEdge s t) (sym e) (one_step plan j u x there moves i s at)

pub phase_edge : (plan new : PlanStatus) → PlanEdge plan new → (new.phase ≡ plan.phase) ⊎ PhaseEdge plan new.phase
phase_edge plan new (Stays e) = inl (ap (λ (p : PlanStatus). p.phase) e)
phase_edge plan new (BecomesApproved e) = inl (ap (λ (p : PlanStatus). p.phase) e)
phase_edge plan new (MovesPhase x p e) = inr (subst (PhaseEdge plan) (sym (ap (λ (p : PlanStatus). p.phase) e)) p)
phase_edge plan new (MovesStep j u x installing there moves e) = inl (ap (λ (p : PlanStatus). p.phase) e)

cause_edge : (plan new : PlanStatus) → PlanEdge plan new → new.cause ≡ plan.cause
cause_edge plan new (Stays e) = ap (λ (p : PlanStatus). p.cause) e
cause_edge plan new (BecomesApproved e) = ap (λ (p : PlanStatus). p.cause) e
cause_edge plan new (MovesPhase x p e) = ap (λ (p : PlanStatus). p.cause) e
cause_edge plan new (MovesStep j u x installing there moves e) = ap (λ (p : PlanStatus). p.cause) e

-- the phase is one that no write leaves
pub IsEnd : PlanStatus → Type 0
IsEnd plan = (plan.phase ≡ phase.Complete) ⊎ (plan.phase ≡ phase.Failed)

pub EndStays : PlanStatus → PlanStatus → Type 0
EndStays plan new = IsEnd plan → (new.phase ≡ plan.phase) × (new.steps ≡ plan.steps)

not_phase : (p q : PlanStatus) → IsEnd p → q.phase ≡ p.phase → (q.phase ≡ phase.Planning) ⊎ ((q.phase ≡ phase.RequiresApproval) ⊎ (q.phase ≡ phase.Installing)) → ⊥
unfolding IsEnd
not_phase p q (inl a) e (inl b) = cc
not_phase p q (inl a) e (inr (inl b)) = cc
not_phase p q (inl a) e (inr (inr b)) = cc
not_phase p q (inr a) e (inl b) = cc
not_phase p q (inr a) e (inr (inl b)) = cc
not_phase p q (inr a) e (inr (inr b)) = cc

begun : (plan : PlanStatus) (x : PlanPhase) → PhaseEdge plan x → (plan.phase ≡ phase.Planning) ⊎ ((plan.phase ≡ phase.RequiresApproval) ⊎ (plan.phase ≡ phase.Installing))
begun plan x (Begins e n) = inl e
begun plan x (BeginsApproved e a n) = inr (inl e)
begun plan x (Completes e d n) = inr (inr e)
begun plan x (Fails e o n) = inr (inr e)

end_edge : (old plan new : PlanStatus) → EndStays old plan → PlanEdge plan new → EndStays old new
unfolding EndStays
end_edge old plan new so (Stays e) is_end = (ap (λ (p : PlanStatus). p.phase) e ∙ (so is_end).0, ap (λ (p : PlanStatus). p.steps) e ∙ (so is_end).1)
end_edge old plan new so (BecomesApproved e) is_end = (ap (λ (p : PlanStatus). p.phase) e ∙ (so is_end).0, ap (λ (p : PlanStatus). p.steps) e ∙ (so is_end).1)
end_edge old plan new so (MovesPhase x p e) is_end = absurd (not_phase old plan is_end (so is_end).0 (begun plan x p))
end_edge old plan new so (MovesStep j u x installing there moves e) is_end = absurd (not_phase old plan is_end (so is_end).0 (inr (inr installing)))

-- what holds of a plan and itself, and is kept by each edge, holds of a plan and the newest one
module _ (is_valid : List ℕ → Bool) (R : PlanStatus → PlanStatus → Type 0) (at_first : (p : PlanStatus) → R p p) (by_edge : (p q r : PlanStatus) → R p q → PlanEdge q r → R p r)
    (key : Key) (kind : is_plan_key key ≡ true) (plan : PlanStatus) where
  always : {g h : History} → IsOlder g h → IsLawful is_valid h → last_plan g key ≡ Some plan → (new : PlanStatus) → last_plan h key ≡ Some new → R plan new
  always now lawful was new is = subst (R plan) (Some-same _ _ _ was is) (at_first plan)
  always {g} (back {w} {g = h} older) lawful was new is =
      let mid = (lawful-past is_valid h lawful.2 g older).1.plans key plan kind was in
      by_edge plan mid.0 new (always older lawful.2 was mid.0 mid.1) (edge is_valid h w key mid.0 new lawful kind mid.1 is)

pub cause_stays : (is_valid : List ℕ → Bool) (h : History) (a : ℕ) (key : Key) (plan new : PlanStatus) → IsLawful is_valid h → is_plan_key key ≡ true
    → last_plan (first_writes a h) key ≡ Some plan → last_plan h key ≡ Some new → new.cause ≡ plan.cause
cause_stays is_valid h a key plan new lawful kind was is =
    always is_valid (λ p q. q.cause ≡ p.cause) (λ p. refl) (λ p q r so e. cause_edge q r e ∙ so) key kind plan (first_older a h) lawful was new is

pub end_stays : (is_valid : List ℕ → Bool) (h : History) (a : ℕ) (key : Key) (plan new : PlanStatus) → IsLawful is_valid h → is_plan_key key ≡ true
    → last_plan (first_writes a h) key ≡ Some plan → last_plan h key ≡ Some new → (plan.phase ≡ phase.Complete) ⊎ (plan.phase ≡ phase.Failed) → (new.phase ≡ plan.phase) × (new.steps ≡ plan.steps)
unfolding IsEnd EndStays
end_stays is_valid h a key plan new lawful kind was is ended =
    always is_valid EndStays (λ p is_end. (refl, refl)) end_edge key kind plan (first_older a h) lawful was new is ended

-- a write of a plan's key finds there what its writer saw
pub plan_as_seen : (is_valid : List ℕ → Bool) (h : History) (w : Write) (object : Object) → IsLawful is_valid (After w h) → w.object ≡ Some object → is_plan_key w.key ≡ true
    → slot (first_writes object.seen h) w.key ≡ slot h w.key
plan_as_seen is_valid h w object lawful is kind = by_class (class_of is_valid h w lawful)
  where
    by_class : Class h w → slot (first_writes object.seen h) w.key ≡ slot h w.key
    by_class (IsApart apart) = elim apart.kind [
      | inl is_none ↦ absurd (cc)
      | inr none ↦ absurd (let e : None ≡ Some object = sym none ∙ is in cc)
    ]
    by_class (IsFirst first) = first.as_seen object.seen
    by_class (GoesWith goes) = goes.as_seen object is
    by_class (PutsOne puts) = absurd (let e = puts.no_plan in cc)

-- the first plan of a key is a resolver's new one
pub first_plan : (is_valid : List ℕ → Bool) (h : History) (w : Write) (key : Key) (new : PlanStatus) → IsLawful is_valid (After w h) → is_plan_key key ≡ true → last_plan h key ≡ None → last_plan (After w h) key ≡ Some new
    → (w.key ≡ key) × (w.by ≡ writer.Resolver) × IsNew new
first_plan is_valid h w key new lawful kind none is = elim (same_or_other w h key) [
  | inr other ↦ absurd (let e : None ≡ Some new = sym none ∙ sym (last_plan-other w h key other.0) ∙ is in cc)
  | inl same ↦ by_class same.0 (class_of is_valid h w lawful)
]
  where
    by_class : w.key ≡ key → Class h w → (w.key ≡ key) × (w.by ≡ writer.Resolver) × IsNew new
    by_class e (IsApart apart) = elim apart.kind [
      | inl is_none ↦ absurd (let t : is_plan_key key ≡ false = subst (λ k. is_plan_key k ≡ false) e is_none in cc)
      | inr gone ↦ absurd (let n : None ≡ Some new = sym none ∙ sym (last_plan-written w h key e ∙ ap (λ o. option_or o (last_plan h key)) (ap as_plan gone)) ∙ is in cc)
    ]
    by_class e (IsFirst first) =
        (e, first.by, subst IsNew (Some-same _ _ _ (last_plan-written w h key e ∙ ap (λ o. option_or o (last_plan h key)) first.put) is) first.new)
    by_class e (GoesWith goes) = absurd (let n : None ≡ Some goes.plan = sym none ∙ ap (λ k. last_plan h k) (sym e) ∙ goes.last in cc)
    by_class e (PutsOne puts) = absurd (let t : is_plan_key key ≡ false = subst (λ k. is_plan_key k ≡ false) e puts.no_plan in cc)
