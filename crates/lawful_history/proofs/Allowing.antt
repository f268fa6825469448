-- Each allowed write keeps soundness.
use Rattle.std.proofs.Common.{◌≡◌, ◌≢◌, ◌≤◌, ◌<◌, ◌+◌, ◌⊎◌, ⊎_elim, Bool, true, false, cond, not, eqb, ◌||◌, List, [], ◌∷◌, ℕ, Option, Some, None, refl, sym, ap, ◌∙◌, arith, inl, inr, subst}
use Rattle.std.proofs.lemmas.Bool.{eqb-true, eqb-false, or_left, or_parts, cases_lt}
use Rattle.std.specs.Option.{option_or}
use Rattle.std.specs.List.{slice_get}
use Rattle.cluster_objects.specs.Kinds.{as_plan, is_plan_key, is_resolution_key, is_catalog_key}
use Rattle.cluster_objects.specs.Stamps.{times, stamps_of}
use Rattle.cluster_history.specs.History.{History, slot, slot_in}
use Rattle.cluster_history.specs.Views.{View, is_visible}
use Rattle.lawful_history.specs.Counting.{is_installer}
use Rattle.lawful_history.specs.Installing.{install_key, key_of, step_stamp, plan_write, step_write, with_phase, with_step, aim, Move, Rest, Begin, Finish, Fail, Aim, Land, move_write, has_body, is_kept}
use Rattle.lawful_history.specs.Lawful.{last_plan, started, is_early, StateLater, PlanLater, IsStepOf, MakesItsKind}
use Rattle.lawful_history.specs.Sound.{WaitsForApproval, IsUntouchedEarly}
use Rattle.lawful_history.proofs.Invariant.{StateFits, IsSoundHistory, GoesOn}
use Rattle.cluster_objects.specs.declared.keys.Key.{Key}
use Rattle.cluster_history.specs.declared.slots.Slot.{Slot}
use Rattle.cluster_objects.specs.declared.keys.Stamp.{Stamp}
use Rattle.cluster_objects.specs.declared.objects.Object.{Object}
use Rattle.cluster_objects.specs.declared.objects.Status.{Status}
use Rattle.cluster_objects.specs.declared.objects.Status.TheVariants as status
use Rattle.cluster_objects.specs.declared.plans.Step.{Step}
use Rattle.cluster_objects.specs.declared.plans.StepState.{StepState}
use Rattle.cluster_objects.specs.declared.plans.StepState.TheVariants.{Unknown, Aimed, Created, Present, Overtaken}
use Rattle.cluster_objects.specs.declared.plans.PlanPhase.{PlanPhase}
use Rattle.cluster_objects.specs.declared.plans.PlanPhase.TheVariants as phase
use Rattle.cluster_objects.specs.declared.plans.PlanStatus.{PlanStatus}
use Rattle.cluster_objects.specs.declared.statuses.Made.{Made}
use Rattle.cluster_objects.specs.declared.objects.Write.{Write}
use Rattle.cluster_objects.proofs.Stamping.{same_text-refl}
use Rattle.lawful_history.proofs.Efforts.{effort, effort-is, effort-phase, effort-step, phase_effort, state_effort, unknown-effort, present-effort, aimed-effort, created-effort, overtaken-effort, planning-effort, approval-effort, installing-effort, complete-effort, failed-effort}
use Rattle.lawful_history.proofs.Slots.{same_or_other, last_plan-written, last_plan-other}
use Rattle.lawful_history.proofs.Later.{PlanLater-refl}
use Rattle.lawful_history.proofs.Moves.{IsStep, MoveStep, with_step_cases, with_step-later}
use Rattle.lawful_history.proofs.Steps.{Leaves, Planned, Changes, Some-same}
use Rattle.lawful_history.proofs.Landing.{Lands}

-- what an allowed write is to the law
abbrev pub Effect : History → Write → Type 0
Effect h w = ((stamps_of w.object ≡ []) × Changes h w) ⊎ Lands h w

-- what is in the plan's namespace or in none is seen there
pub step_visible : (key : Key) (step : Step) → IsStepOf key step → is_visible key.namespace step.key ≡ true
step_visible key step is = elim is.place [
  | inl e ↦ subst (λ ns. is_visible ns step.key ≡ true) e (own step.key)
  | inr e ↦ global key.namespace step.key e
]
  where
    own : (k : Key) → is_visible k.namespace k ≡ true
    own k = or_left _ _ (same_text-refl k.namespace)

    global : (ns : List ℕ) (k : Key) → k.namespace ≡ [] → is_visible ns k ≡ true
    global ns k e = subst (λ n. is_visible ns (record k { namespace = n }) ≡ true) (sym e) (nowhere ns k)
      where
        nowhere : (ns : List ℕ) (k : Key) → is_visible ns (record k { namespace = [] }) ≡ true
        nowhere [] k = refl
        nowhere (x ∷ xs) k = refl

-- a step of the same key that makes the same
step_of-same : (key : Key) (s t : Step) → t.key ≡ s.key → t.made ≡ s.made → IsStepOf key s → IsStepOf key t
step_of-same key s t k m is = record {
  place = subst (λ (x : Key). (x.namespace ≡ key.namespace) ⊎ (x.namespace ≡ [])) (sym k) is.place;
  plan = ap is_plan_key k ∙ is.plan;
  resolution = subst (λ (x : Key). is_resolution_key x ≡ false) (sym k) is.resolution;
  catalog = subst (λ (x : Key). is_catalog_key x ≡ false) (sym k) is.catalog;
  makes = subst (λ (x : Key). MakesItsKind x t.made) (sym k) (subst (λ (x : Made). MakesItsKind s.key x) (sym m) is.makes);
}

module _ (h : History) (w : Write) (sound : IsSoundHistory h) where
  other_leaves : (key : Key) → w.key ≢ key → Leaves h w key
  other_leaves key ne = record { last = last_plan-other w h key ne; object = λ e. absurd (ne e); by = λ e. absurd (ne e) }

  -- a write that puts no plan at a plan's key
  pub no_plans : ((key : Key) → w.key ≡ key → is_plan_key key ≡ true → (w.object ≡ None) × (is_installer w.by ≡ false)) → Changes h w
  no_plans none key kind = elim (same_or_other w h key) [
    | inl e ↦ inl (record {
      last = last_plan-written w h key e.0 ∙ ap (λ o. option_or o (last_plan h key)) (ap as_plan (none key e.0 kind).0);
      object = λ is. (none key is kind).0;
      by = λ is. (none key is kind).1;
    })
    | inr e ↦ inl (other_leaves key e.0)
  ]

  -- a write of a plan
  pub new_plan : (p : PlanStatus) → as_plan w.object ≡ Some p → Planned h w p → Changes h w
  new_plan p is planned key kind = elim (same_or_other w h key) [
    | inl e ↦ inr (p, sym e.0, last_plan-written w h key e.0 ∙ ap (λ o. option_or o (last_plan h key)) is, planned)
    | inr e ↦ inl (other_leaves key e.0)
  ]

-- how a plan that is there goes on to another by a write of its key
pub record Replans (h : History) (w : Write) (plan p : PlanStatus) : Type 0 where
  pub number : p.number ≡ plan.number
  pub later : PlanLater plan p
  pub back : (i : ℕ) (t : Step) → slice_get p.steps i ≡ Some t → (s : Step) × (slice_get plan.steps i ≡ Some s) × (t.key ≡ s.key) × (t.made ≡ s.made)
  pub fits : (i : ℕ) (s : Step) → slice_get p.steps i ≡ Some s → StateFits s.state (step_stamp w.key p i) s.key (slot h s.key)
  pub waiting : started h w.key ≡ false → (i : ℕ) (s : Step) → slice_get p.steps i ≡ Some s → s.state ≡ Unknown
  pub waits : WaitsForApproval p
  pub early : IsUntouchedEarly p
  pub overtakes : (i : ℕ) (s t : Step) → slice_get plan.steps i ≡ Some s → slice_get p.steps i ≡ Some t → t.state ≡ Overtaken → (s.state ≡ Overtaken) ⊎ ((m : ℕ) × (s.state ≡ Aimed m) × (m < (slot h s.key).version))
  pub effort : effort h w.key plan + cond (is_installer w.by) 1 0 ≤ effort h w.key p

module _ (h : History) (w : Write) (sound : IsSoundHistory h) (plan p : PlanStatus) (kind : is_plan_key w.key ≡ true) (there : as_plan (slot h w.key).object ≡ Some plan)
    (last : last_plan h w.key ≡ Some plan) (is : as_plan w.object ≡ Some p) where
  pub replan : Replans h w plan p → Changes h w
  replan r = new_plan h w sound p is (record {
    plan = (let old = sound.plans w.key plan kind last in record {
      named = subst (λ n. w.key ≡ install_key w.key.namespace n) (sym r.number) old.named;
      distinct = λ i j s t at at' same.
          let b = r.back i s at in let c = r.back j t at' in
          old.distinct i j b.0 c.0 b.1 c.1 (sym b.2 ∙ same ∙ c.2);
      steps = λ i t at. let b = r.back i t at in step_of-same w.key b.0 t b.2 b.3 (old.steps i b.0 b.1);
    });
    fits = r.fits;
    first = λ none. absurd (let e : None ≡ Some plan = sym none ∙ last in cc);
    waiting = r.waiting;
    later = λ p₀ was. subst (λ (q : PlanStatus). PlanLater q p) (Some-same _ _ _ last was) r.later;
    waits = r.waits;
    early = r.early;
    there = inr (plan, there);
    overtakes = λ p₀ i s t was at at' over. r.overtakes i s t (ap (λ (q : PlanStatus). slice_get q.steps i) (Some-same _ _ _ last was) ∙ at) at' over;
    effort = λ p₀ was. subst (λ (q : PlanStatus). effort h w.key q + cond (is_installer w.by) 1 0 ≤ effort h w.key p) (Some-same _ _ _ last was) r.effort;
  })

  -- a plan of which no step changes
  pub same_steps : p.number ≡ plan.number → p.steps ≡ plan.steps → PlanLater plan p → WaitsForApproval p → IsUntouchedEarly p → effort h w.key plan + cond (is_installer w.by) 1 0 ≤ effort h w.key p → Changes h w
  same_steps number steps later waits early work = replan (record {
    number = number;
    later = later;
    back = λ i t at. (t, was i t at, refl, refl);
    fits = λ i s at. subst (λ n. StateFits s.state (record { namespace = w.key.namespace; plan = n; step = i }) s.key (slot h s.key)) (sym number) (sound.states w.key plan i s kind last (was i s at));
    waiting = λ unstarted i s at. sound.waiting w.key plan i s kind last unstarted (was i s at);
    waits = waits;
    early = early;
    overtakes = λ i s t at at' over. inl (ap (λ (x : Step). x.state) (Some-same _ _ _ at (was i t at')) ∙ over);
    effort = work;
  })
    where
      was : (i : ℕ) (s : Step) → slice_get p.steps i ≡ Some s → slice_get plan.steps i ≡ Some s
      was i s at = ap (λ (xs : List Step). slice_get xs i) (sym steps) ∙ at

pub bare-none : (object : Object) → object.stamp ≡ None → stamps_of (Some object) ≡ []
bare-none object e = ap (λ (st : Option Stamp). stamps_of (Some (record object { stamp = st }))) e

pub as_plan-status : (object : Object) (p : PlanStatus) → object.status ≡ status.Plan p → as_plan (Some object) ≡ Some p
as_plan-status object p e = ap (λ (st : Status). as_plan (Some (record object { status = st }))) e

-- an installer's write
module _ (h : History) (sound : IsSoundHistory h) (old : History) (sound_old : IsSoundHistory old) (goes : GoesOn old h) (v : View)
    (sees : (k : Key) → is_visible v.namespace k ≡ true → slot_in v.slots k ≡ slot old k) (key : Key) (object : Object) (plan : PlanStatus)
    (kind : is_plan_key key ≡ true) (namespace : key.namespace ≡ v.namespace) (is_there : (slot old key).object ≡ Some object) (status_is : object.status ≡ status.Plan plan) where
  was : last_plan old key ≡ Some plan
  was = sound_old.there key plan kind (ap as_plan is_there ∙ as_plan-status object plan status_is)

  -- a write of the plan itself: the plan is still there
  still_there : (slot old key).version ≡ (slot h key).version → as_plan (slot h key).object ≡ Some plan
  still_there same = ap (λ (x : Slot). as_plan x.object) (sym (goes.same key same)) ∙ ap as_plan is_there ∙ as_plan-status object plan status_is

  still : (slot old key).version ≡ (slot h key).version → last_plan h key ≡ Some plan
  still same = sound.there key plan kind (still_there same)

  -- a manual plan without approval doesn't move
  Moving : Type 0
  Moving = (plan.phase ≡ phase.Planning) ⊎ (((plan.phase ≡ phase.RequiresApproval) × (plan.approved ≡ true)) ⊎ (plan.phase ≡ phase.Installing))

  moves : (slot old key).version ≡ (slot h key).version → Moving → plan.manual ≡ true → plan.approved ≡ false → ⊥
  unfolding Moving
  moves same m manual unapproved = by_phase (sound.waits key plan kind (still same) manual unapproved).0 m
    where
      by_phase : (plan.phase ≡ phase.RequiresApproval) ⊎ (plan.phase ≡ phase.Failed) → (plan.phase ≡ phase.Planning) ⊎ (((plan.phase ≡ phase.RequiresApproval) × (plan.approved ≡ true)) ⊎ (plan.phase ≡ phase.Installing)) → ⊥
      by_phase (inl a) (inl b) = cc
      by_phase (inl a) (inr (inl b)) = let x = b.1 in cc
      by_phase (inl a) (inr (inr b)) = cc
      by_phase (inr a) (inl b) = cc
      by_phase (inr a) (inr (inl b)) = let x = b.1 in cc
      by_phase (inr a) (inr (inr b)) = cc

  phase_write : (x : PlanPhase) → is_early x ≡ false → (plan.manual ≡ true → plan.approved ≡ false → ⊥) → phase_effort plan.phase + 1 ≤ phase_effort x → (slot old key).version ≡ (slot h key).version → Effect h (plan_write v key (slot old key).version object (with_phase plan x))
  phase_write x late free rises same = inl (
    refl,
    same_steps h (plan_write v key (slot old key).version object (with_phase plan x)) sound plan (with_phase plan x) kind (still_there same) (still same) refl refl refl
        (record { number = refl; manual = refl; approved = λ e. e; count = refl; steps = (PlanLater-refl plan).steps })
        (λ manual unapproved. absurd (free manual unapproved))
        (λ e. absurd (cc))
        (omega (arith, effort-is h key plan, effort-phase h key plan x, rises)),
  )

  state_write : (i : ℕ) (s : Step) (st : StepState) → plan.phase ≡ phase.Installing → slice_get plan.steps i ≡ Some s → StateLater s.state st
      → StateFits st (step_stamp key plan i) s.key (slot h s.key)
      → state_effort s.state (times (step_stamp key plan i) (slot h s.key).stamps) + 1 ≤ state_effort st (times (step_stamp key plan i) (slot h s.key).stamps)
      → (st ≡ Overtaken → (m : ℕ) × (s.state ≡ Aimed m) × (m < (slot h s.key).version)) → (slot old key).version ≡ (slot h key).version
      → Effect h (plan_write v key (slot old key).version object (with_step plan i s st))
  unfolding Moving
  state_write i s st installing at later fits rises over same =
      let w = plan_write v key (slot old key).version object (with_step plan i s st) in
      inl (
        refl,
        replan h w sound plan (with_step plan i s st) kind (still_there same) (still same) refl (record {
          number = refl;
          later = with_step-later plan i s st at later;
          back = λ j t is. ⊎_elim
              (λ e. (s, subst (λ n. slice_get plan.steps n ≡ Some s) (sym e.0) at, ap (λ (x : Step). x.key) e.1, ap (λ (x : Step). x.made) e.1))
              (λ e. (t, e.1, refl, refl))
              (with_step_cases plan i s st at j t is);
          fits = λ j t is. ⊎_elim
              (λ x. subst (λ (y : Step). StateFits y.state (step_stamp key plan j) y.key (slot h y.key)) (sym x.1) (subst (λ m. StateFits st (step_stamp key plan m) s.key (slot h s.key)) (sym x.0) fits))
              (λ x. sound.states key plan j t kind (still same) x.1)
              (with_step_cases plan i s st at j t is);
          waiting = λ unstarted j t is. absurd (let b : started h key ≡ true = sound.begun key plan (still same) installing in cc);
          waits = λ manual unapproved. absurd (moves same (inr (inr installing)) manual unapproved);
          early = λ e. absurd (let l : is_early plan.phase ≡ false = ap is_early installing in cc);
          overtakes = λ j u t at' is is_over. ⊎_elim
              (λ x.
              let same_step : u ≡ s = Some-same _ _ _ at' (subst (λ n. slice_get plan.steps n ≡ Some s) (sym x.0) at) in
              let o = over (sym (ap (λ (y : Step). y.state) x.1) ∙ is_over) in
              inr (o.0, ap (λ (y : Step). y.state) same_step ∙ o.1, subst (λ (y : Step). o.0 < (slot h y.key).version) (sym same_step) o.2))
              (λ x. inl (ap (λ (y : Step). y.state) (Some-same _ _ _ at' x.1) ∙ is_over))
              (with_step_cases plan i s st at j t is);
          effort = effort-step h key plan i s st at rises;
        }),
      )

  -- the slot of a step's key, as the view shows it
  saw : (i : ℕ) (s : Step) → slice_get plan.steps i ≡ Some s → slot_in v.slots s.key ≡ slot old s.key
  saw i s at = sees s.key (subst (λ ns. is_visible ns s.key ≡ true) namespace (step_visible key s ((sound_old.plans key plan kind was).steps i s at)))

  -- the stamp of a step that isn't carried, in the present state
  uncarried : (i : ℕ) (s : Step) → slice_get plan.steps i ≡ Some s → s.state ≡ Unknown → (slot old key).version ≡ (slot h key).version → times (step_stamp key plan i) (slot h s.key).stamps ≡ 0
  uncarried i s at unknown same = subst (λ (x : StepState). StateFits x (step_stamp key plan i) s.key (slot h s.key)) unknown (sound.states key plan i s kind (still same) at)

  aim_fits : (i : ℕ) (s : Step) → slice_get plan.steps i ≡ Some s → s.state ≡ Unknown → (slot old key).version ≡ (slot h key).version → StateFits (aim (slot_in v.slots s.key) s) (step_stamp key plan i) s.key (slot h s.key)
  aim_fits i s at unknown same = by_test (has_body there.object s.body || is_kept s.key there.object) refl
    where
      there : Slot
      there = slot_in v.slots s.key

      by_test : (b : Bool) → (has_body there.object s.body || is_kept s.key there.object) ≡ b → StateFits (cond b Present (Aimed there.version)) (step_stamp key plan i) s.key (slot h s.key)
      by_test true e = uncarried i s at unknown same
      by_test false e = (
        omega (arith, ap (λ (x : Slot). x.version) (saw i s at), goes.versions s.key),
        λ is.
            let equal : there ≡ slot h s.key = saw i s at ∙ goes.same s.key (sym (ap (λ (x : Slot). x.version) (saw i s at)) ∙ is) in
            (uncarried i s at unknown same, ap (λ (x : Slot). is_kept s.key x.object) (sym equal) ∙ (or_parts (has_body there.object s.body) (is_kept s.key there.object) e).1),
      )

  aim_rises : (there : Slot) (s : Step) (n : ℕ) → s.state ≡ Unknown → state_effort s.state n + 1 ≤ state_effort (aim there s) n
  aim_rises there s n unknown = by_test (has_body there.object s.body || is_kept s.key there.object)
    where
      none : state_effort s.state n ≡ 0
      none = ap (λ (x : StepState). state_effort x n) unknown ∙ unknown-effort n

      by_test : (b : Bool) → state_effort s.state n + 1 ≤ state_effort (cond b Present (Aimed there.version)) n
      by_test true = omega (arith, none, present-effort n)
      by_test false = omega (arith, none, aimed-effort there.version n)

  aim_over : (there : Slot) (s : Step) → aim there s ≡ Overtaken → ⊥
  aim_over there s is = by_test (has_body there.object s.body || is_kept s.key there.object) is
    where
      by_test : (b : Bool) → cond b Present (Aimed there.version) ≡ Overtaken → ⊥
      by_test true e = cc
      by_test false e = cc

  aim_later : (s : Step) (x : StepState) → s.state ≡ Unknown → StateLater s.state x
  aim_later s x unknown = subst (λ (y : StepState). StateLater y x) (sym unknown) tt

  Class : Write → Type 0
  Class w = w.expect ≡ (slot h w.key).version → Effect h w

  aims : (i : ℕ) (s : Step) → IsStep plan i s Unknown → Class (plan_write v key (slot old key).version object (with_step plan i s (aim (slot_in v.slots s.key) s)))
  unfolding Class
  aims i s is same =
      let there = slot_in v.slots s.key in
      state_write i s (aim there s) is.installing is.at (aim_later s (aim there s) is.state) (aim_fits i s is.at is.state same) (aim_rises there s _ is.state) (λ o. absurd (aim_over there s o)) same

  seen_stamp : ℕ → Stamp
  seen_stamp i = record { namespace = v.namespace; plan = plan.number; step = i }

  same_stamps : (i : ℕ) → seen_stamp i ≡ step_stamp key plan i
  unfolding seen_stamp
  same_stamps i = ap (λ (ns : List ℕ). record { namespace = ns; plan = plan.number; step = i }) (sym namespace)

  key_of-seen : (i : ℕ) → key_of (seen_stamp i) ≡ key
  unfolding seen_stamp
  key_of-seen i = sym ((sound_old.plans key plan kind was).named ∙ ap (λ ns. install_key ns plan.number) namespace)

  -- how often a step's stamp stood in the slot that the view shows
  seen_times : (i : ℕ) (s : Step) → slice_get plan.steps i ≡ Some s → times (seen_stamp i) (slot_in v.slots s.key).stamps ≡ times (step_stamp key plan i) (slot old s.key).stamps
  seen_times i s at = ap (λ (x : Slot). times (seen_stamp i) x.stamps) (saw i s at) ∙ ap (λ (x : Stamp). times x (slot old s.key).stamps) (same_stamps i)

  lands : (i : ℕ) (s : Step) (n : ℕ) → IsStep plan i s (Aimed n) → times (seen_stamp i) (slot_in v.slots s.key).stamps ≡ 0 → (slot_in v.slots s.key).version ≡ n
      → Class (step_write v s.key (slot_in v.slots s.key) plan.number i s)
  unfolding Class seen_stamp
  lands i s n is none at_aim same =
      let mid = goes.plans key plan kind was in
      let moved = mid.2.steps i s is.at in
      let seen : slot_in v.slots s.key ≡ slot old s.key = saw i s is.at in
      let equal : slot_in v.slots s.key ≡ slot h s.key = seen ∙ goes.same s.key (sym (ap (λ (x : Slot). x.version) seen) ∙ same) in
      let version : (slot h s.key).version ≡ n = sym same ∙ at_aim in
      let absent : times (seen_stamp i) (slot h s.key).stamps ≡ 0 = subst (λ (x : Slot). times (seen_stamp i) x.stamps ≡ 0) equal none in
      let there : times (step_stamp key mid.0 i) (slot h moved.0.key).stamps ≡ 0 =
      subst (λ (k : Key). times (step_stamp key mid.0 i) (slot h k).stamps ≡ 0) (sym moved.2.key)
      (subst (λ m. times (record { namespace = key.namespace; plan = m; step = i }) (slot h s.key).stamps ≡ 0) (sym mid.2.number) (ap (λ (x : Stamp). times x (slot h s.key).stamps) (sym (same_stamps i)) ∙ absent)) in
      let aimed : moved.0.state ≡ Aimed n = by_later moved.0.state (subst (λ (x : StepState). StateLater x moved.0.state) is.state moved.2.state)
      (λ e. absurd (let one = subst (λ (x : StepState). StateFits x (step_stamp key mid.0 i) moved.0.key (slot h moved.0.key)) e (sound.states key mid.0 i moved.0 kind mid.1 moved.1) in omega (arith, one, there)))
      (λ e. absurd (omega (arith, version, goes.passed key plan mid.0 i s moved.0 n kind was is.at is.state mid.1 moved.1 e))) in
      inr (record {
        stamp = seen_stamp i;
        carries = refl;
        no_plan = ((sound_old.plans key plan kind was).steps i s is.at).plan;
        by = refl;
        plan = mid.0;
        step = moved.0;
        last = ap (λ k. last_plan h k) (key_of-seen i) ∙ mid.1;
        number = sym mid.2.number;
        at = moved.1;
        key = moved.2.key;
        aimed = aimed ∙ ap Aimed (sym version);
        going = ap (λ k. started h k) (key_of-seen i) ∙ goes.begun key (sound_old.begun key plan was is.installing);
        absent = absent;
      })
    where
      by_later : (x : StepState) → StateLater (Aimed n) x → (x ≡ Created → x ≡ Aimed n) → (x ≡ Overtaken → x ≡ Aimed n) → x ≡ Aimed n
      by_later x (inl e) c o = e
      by_later x (inr (inl e)) c o = c e
      by_later x (inr (inr e)) c o = o e

  from_aimed : (s : Step) (n : ℕ) (x : StepState) → s.state ≡ Aimed n → StateLater (Aimed n) x → StateLater s.state x
  from_aimed s n x e later = subst (λ (y : StepState). StateLater y x) (sym e) later

  -- where the view shows the stamp, the step is carried once
  created_fits : (i : ℕ) (s : Step) → slice_get plan.steps i ≡ Some s → (times (seen_stamp i) (slot_in v.slots s.key).stamps ≡ 0 → ⊥) → times (step_stamp key plan i) (slot h s.key).stamps ≡ 1
  created_fits i s at some =
      let seen = seen_times i s at in
      omega (arith, seen, positive _ some, goes.stamps (step_stamp key plan i) s.key, sound.once (step_stamp key plan i) s.key)
    where
      positive : (n : ℕ) → (n ≡ 0 → ⊥) → 0 < n
      positive n ne = elim (cases_lt 0 n) [ inl lt ↦ lt | inr le ↦ absurd (ne (omega (arith, le))) ]

  -- the effort of an aimed step, by how often it is carried
  effort_of : (s : Step) (n c : ℕ) → s.state ≡ Aimed n → state_effort s.state c ≡ 1 + c
  effort_of s n c e = ap (λ (x : StepState). state_effort x c) e ∙ aimed-effort n c

  land_class : (i : ℕ) (s : Step) (n : ℕ) → IsStep plan i s (Aimed n)
      → Class (cond (not (eqb (times (seen_stamp i) (slot_in v.slots s.key).stamps) 0)) (plan_write v key (slot old key).version object (with_step plan i s Created))
      (cond (eqb (slot_in v.slots s.key).version n) (step_write v s.key (slot_in v.slots s.key) plan.number i s) (plan_write v key (slot old key).version object (with_step plan i s Overtaken))))
  unfolding Class
  land_class i s n is = by_stamp (eqb (times (seen_stamp i) (slot_in v.slots s.key).stamps) 0) refl
    where
      overtaken : times (seen_stamp i) (slot_in v.slots s.key).stamps ≡ 0 → ((slot_in v.slots s.key).version ≡ n → ⊥) → Class (plan_write v key (slot old key).version object (with_step plan i s Overtaken))
      overtaken none other same =
          let fits_old = subst (λ (x : StepState). StateFits x (step_stamp key plan i) s.key (slot old s.key)) is.state (sound_old.states key plan i s kind was is.at) in
          let seen : (slot_in v.slots s.key).version ≡ (slot old s.key).version = ap (λ (x : Slot). x.version) (saw i s is.at) in
          let past : n < (slot old s.key).version = elim (cases_lt n (slot old s.key).version) [ inl lt ↦ lt | inr le ↦ absurd (other (omega (arith, le, seen, fits_old.0))) ] in
          let stays = goes.stays key plan plan i s s n kind was is.at is.state past (still same) is.at is.state in
          let zero_now : times (step_stamp key plan i) (slot h s.key).stamps ≡ 0 = stays ∙ sym (seen_times i s is.at) ∙ none in
          state_write i s Overtaken is.installing is.at (from_aimed s n Overtaken is.state (inr (inr refl))) zero_now
          (omega (arith, effort_of s n (times (step_stamp key plan i) (slot h s.key).stamps) is.state, overtaken-effort (times (step_stamp key plan i) (slot h s.key).stamps), zero_now))
          (λ e. (n, is.state, omega (arith, past, goes.versions s.key))) same

      created : (times (seen_stamp i) (slot_in v.slots s.key).stamps ≡ 0 → ⊥) → Class (plan_write v key (slot old key).version object (with_step plan i s Created))
      created some same =
          let one = created_fits i s is.at some in
          state_write i s Created is.installing is.at (from_aimed s n Created is.state (inr (inl refl))) one
          (omega (arith, effort_of s n (times (step_stamp key plan i) (slot h s.key).stamps) is.state, created-effort (times (step_stamp key plan i) (slot h s.key).stamps), one))
          (λ e. absurd (cc)) same

      by_version : (b : Bool) → eqb (slot_in v.slots s.key).version n ≡ b → times (seen_stamp i) (slot_in v.slots s.key).stamps ≡ 0
          → Class (cond b (step_write v s.key (slot_in v.slots s.key) plan.number i s) (plan_write v key (slot old key).version object (with_step plan i s Overtaken)))
      by_version true e none = lands i s n is none (eqb-true _ _ e)
      by_version false e none = overtaken none (eqb-false _ _ e)

      by_stamp : (b : Bool) → eqb (times (seen_stamp i) (slot_in v.slots s.key).stamps) 0 ≡ b
          → Class (cond (not b) (plan_write v key (slot old key).version object (with_step plan i s Created))
          (cond (eqb (slot_in v.slots s.key).version n) (step_write v s.key (slot_in v.slots s.key) plan.number i s) (plan_write v key (slot old key).version object (with_step plan i s Overtaken))))
      by_stamp true e = by_version (eqb (slot_in v.slots s.key).version n) refl (eqb-true _ _ e)
      by_stamp false e = created (eqb-false _ _ e)

  -- a phase that follows on Planning, RequiresApproval or Installing
  begins : MoveStep plan Begin → Class (plan_write v key (slot old key).version object (with_phase plan phase.Installing))
  unfolding Class Moving
  begins (inl m) same = phase_write phase.Installing refl (moves same (inl m)) (ap_phase m) same
    where
      ap_phase : plan.phase ≡ phase.Planning → phase_effort plan.phase + 1 ≤ phase_effort phase.Installing
      ap_phase e = omega (arith, ap phase_effort e, planning-effort, installing-effort)
  begins (inr m) same = phase_write phase.Installing refl (moves same (inr (inl m))) (ap_phase m.0) same
    where
      ap_phase : plan.phase ≡ phase.RequiresApproval → phase_effort plan.phase + 1 ≤ phase_effort phase.Installing
      ap_phase e = omega (arith, ap phase_effort e, approval-effort, installing-effort)

  ends : (x : PlanPhase) → is_early x ≡ false → phase_effort x ≡ 2 → plan.phase ≡ phase.Installing → Class (plan_write v key (slot old key).version object (with_phase plan x))
  unfolding Class Moving
  ends x late two m same = phase_write x late (moves same (inr (inr m))) (omega (arith, ap phase_effort m, installing-effort, two)) same

  to : (w₀ w : Write) → Class w₀ → Some w₀ ≡ Some w → Class w
  to w₀ w c e = subst Class (let i : w₀ ≡ w = cc in i) c

  pub move_class : (m : Move) → MoveStep plan m → (w : Write) → move_write v key (slot old key).version object plan m ≡ Some w → w.expect ≡ (slot h w.key).version → Effect h w
  unfolding Class seen_stamp
  move_class Rest is w e = absurd (let f : None ≡ Some w = e in cc)
  move_class Begin is w e = to _ w (begins is) e
  move_class Finish is w e = to _ w (ends phase.Complete refl complete-effort is) e
  move_class Fail is w e = to _ w (ends phase.Failed refl failed-effort is) e
  move_class (Aim i s) is w e = to _ w (aims i s is) e
  move_class (Land i s n) is w e = to _ w (land_class i s n is) e
