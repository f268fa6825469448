-- Soundness is kept by the write of a step's object.
use Rattle.std.proofs.Common.{◌≡◌, ◌≢◌, ◌<◌, ◌+◌, ◌⊎◌, ⊎_elim, Bool, true, false, List, [], ◌∷◌, ℕ, Some, refl, sym, ap, ◌∙◌, arith, inl, inr, subst}
use Rattle.std.specs.List.{slice_get}
use Rattle.cluster_objects.specs.Stamps.{same_stamp, times, stamps_of}
use Rattle.cluster_objects.specs.Kinds.{is_plan_key}
use Rattle.cluster_history.specs.History.{History, After, position, slot}
use Rattle.lawful_history.specs.Counting.{is_installer}
use Rattle.lawful_history.specs.Installing.{key_of, step_stamp}
use Rattle.lawful_history.specs.Lawful.{last_plan, started}
use Rattle.lawful_history.proofs.Invariant.{StateFits, IsSoundHistory}
use Rattle.cluster_objects.specs.declared.keys.Key.{Key}
use Rattle.cluster_objects.specs.declared.keys.Stamp.{Stamp}
use Rattle.cluster_objects.specs.declared.plans.Step.{Step}
use Rattle.cluster_objects.specs.declared.plans.StepState.{StepState}
use Rattle.cluster_objects.specs.declared.plans.StepState.TheVariants.{Unknown, Aimed, Created, Present, Overtaken}
use Rattle.cluster_objects.specs.declared.plans.PlanStatus.{PlanStatus}
use Rattle.cluster_objects.specs.declared.objects.Write.{Write}
use Rattle.cluster_objects.proofs.Stamping.{same_stamp-true, same_stamp-refl, times-same, times-other}
use Rattle.lawful_history.proofs.Slots.{same_or_other, last_plan-other, in_slot, in_slot-written, in_slot-other, version-put, started-before}
use Rattle.lawful_history.proofs.Steps.{is_plan_key-key_of, Changes, Steady, Some-same, fits_kept, begun_kept, was_unwritten, there_kept, versions_kept, apart_kept, written_kept, plans_kept, waits_kept, early_kept}

-- the write of a step's object, which its newest plan aims at the version that the key has
pub record Lands (h : History) (w : Write) : Type 0 where
  pub stamp : Stamp
  pub carries : stamps_of w.object ≡ stamp ∷ []
  pub no_plan : is_plan_key w.key ≡ false
  pub by : is_installer w.by ≡ true
  pub plan : PlanStatus
  pub step : Step
  pub last : last_plan h (key_of stamp) ≡ Some plan
  pub number : stamp.plan ≡ plan.number
  pub at : slice_get plan.steps stamp.step ≡ Some step
  pub key : step.key ≡ w.key
  pub aimed : step.state ≡ Aimed (slot h w.key).version
  pub absent : in_slot stamp h w.key ≡ 0
  pub going : started h (key_of stamp) ≡ true

module _ (w : Write) (h : History) (sound : IsSoundHistory h) (lands : Lands h w) where
  apart : (key : Key) → is_plan_key key ≡ true → w.key ≢ key
  apart key kind e = let t : is_plan_key key ≡ false = subst (λ k. is_plan_key k ≡ false) e lands.no_plan in cc

  pub same_plans : (key : Key) → is_plan_key key ≡ true → last_plan (After w h) key ≡ last_plan h key
  same_plans key kind = last_plan-other w h key (apart key kind)

  pub changes-lands : Changes h w
  changes-lands key kind = inl (record { last = same_plans key kind; object = λ e. absurd (apart key kind e); by = λ e. absurd (apart key kind e) })

  of_stamp : (stamp : Stamp) → last_plan (After w h) (key_of stamp) ≡ last_plan h (key_of stamp)
  of_stamp stamp = same_plans (key_of stamp) (is_plan_key-key_of stamp)

  -- the stamp at its key, or nothing changes
  pub counts : (stamp : Stamp) (key : Key) → ((lands.stamp ≡ stamp) × (w.key ≡ key) × (in_slot stamp (After w h) key ≡ 1)) ⊎ (in_slot stamp (After w h) key ≡ in_slot stamp h key)
  counts stamp key = elim (same_or_other w h key) [
    | inr e ↦ inr (in_slot-other stamp w h key e.0)
    | inl e ↦ by_stamp e.0 (same_stamp lands.stamp stamp) refl
  ]
    where
      one : w.key ≡ key → in_slot stamp (After w h) key ≡ in_slot stamp h key + times stamp (lands.stamp ∷ [])
      one e = in_slot-written stamp w h key e ∙ ap (λ (xs : List Stamp). in_slot stamp h key + times stamp xs) lands.carries

      by_stamp : w.key ≡ key → (b : Bool) → same_stamp lands.stamp stamp ≡ b → ((lands.stamp ≡ stamp) × (w.key ≡ key) × (in_slot stamp (After w h) key ≡ 1)) ⊎ (in_slot stamp (After w h) key ≡ in_slot stamp h key)
      by_stamp e true is =
          let same : lands.stamp ≡ stamp = same_stamp-true lands.stamp stamp is in
          let none : in_slot stamp h key ≡ 0 = subst (λ (s : Stamp). in_slot s h key ≡ 0) same (subst (λ (k : Key). in_slot lands.stamp h k ≡ 0) e lands.absent) in
          let ones : times stamp (lands.stamp ∷ []) ≡ 1 = subst (λ (s : Stamp). times s (lands.stamp ∷ []) ≡ 1) same (times-same lands.stamp) in
          inl (same, e, omega (arith, one e, none, ones))
      by_stamp e false is =
          let ne : stamp ≢ lands.stamp = λ s. let t : same_stamp lands.stamp stamp ≡ true = subst (λ (x : Stamp). same_stamp lands.stamp x ≡ true) (sym s) (same_stamp-refl lands.stamp) in cc in
          inr (omega (arith, one e, times-other stamp lands.stamp ne))

  pub steady-lands : Steady h w
  steady-lands stamp key = elim (counts stamp key) [
    | inl new ↦ inr (record {
      plan = lands.plan;
      step = lands.step;
      last = ap (λ (x : Stamp). last_plan h (key_of x)) (sym new.0) ∙ lands.last;
      at = ap (λ (x : Stamp). slice_get lands.plan.steps x.step) (sym new.0) ∙ lands.at;
      aimed = lands.aimed ∙ ap (λ k. Aimed (slot h k).version) new.1;
    })
    | inr same ↦ inl same
  ]

  pub sound-lands : IsSoundHistory (After w h)
  sound-lands = record {
    versions = versions_kept w h sound;
    apart = apart_kept w h sound;
    there = there_kept w h sound;
    written = written_kept w h sound;
    plans = plans_kept w h sound changes-lands;
    waits = waits_kept w h sound changes-lands;
    early = early_kept w h sound changes-lands;
    fresh = fresh;
    at_step = at_step;
    once = λ stamp key. ⊎_elim (λ new. omega (arith, new.2)) (λ same. omega (arith, same, sound.once stamp key)) (counts stamp key);
    states = states;
    begun = begun_kept w h sound;
    idle = idle;
    waiting = λ key plan i s kind is unstarted at. sound.waiting key plan i s kind (sym (same_plans key kind) ∙ is) (started-before w h key unstarted) at;
  }
    where
      fresh : (stamp : Stamp) (key : Key) → (slot (After w h) (key_of stamp)).version ≡ 0 → in_slot stamp (After w h) key ≡ 0
      fresh stamp key is = elim (counts stamp key) [
        | inl new ↦
            let t : last_plan h (key_of stamp) ≡ Some lands.plan = subst (λ (s : Stamp). last_plan h (key_of s) ≡ Some lands.plan) new.0 lands.last in
            let u = sound.written (key_of stamp) (was_unwritten w h (key_of stamp) is) in cc
        | inr same ↦ same ∙ sound.fresh stamp key (was_unwritten w h (key_of stamp) is)
      ]

      idle : (stamp : Stamp) (key : Key) → started (After w h) (key_of stamp) ≡ false → in_slot stamp (After w h) key ≡ 0
      idle stamp key is = elim (counts stamp key) [
        | inl new ↦ let t : started h (key_of stamp) ≡ true = subst (λ (s : Stamp). started h (key_of s) ≡ true) new.0 lands.going in let u = started-before w h (key_of stamp) is in cc
        | inr same ↦ same ∙ sound.idle stamp key (started-before w h (key_of stamp) is)
      ]

      at_step : (stamp : Stamp) (key : Key) (plan : PlanStatus) → last_plan (After w h) (key_of stamp) ≡ Some plan → 0 < in_slot stamp (After w h) key → (s : Step) × (slice_get plan.steps stamp.step ≡ Some s) × (s.key ≡ key) × (stamp.plan ≡ plan.number)
      at_step stamp key plan is some = elim (counts stamp key) [
        | inl new ↦
            let t : last_plan h (key_of stamp) ≡ Some lands.plan = subst (λ (s : Stamp). last_plan h (key_of s) ≡ Some lands.plan) new.0 lands.last in
            let p : lands.plan ≡ plan = let u = of_stamp stamp in cc in (
              lands.step,
              subst (λ (s : Stamp). slice_get plan.steps s.step ≡ Some lands.step) new.0 (ap (λ (q : PlanStatus). slice_get q.steps lands.stamp.step) (sym p) ∙ lands.at),
              lands.key ∙ new.1,
              sym (ap (λ (s : Stamp). s.plan) new.0) ∙ lands.number ∙ ap (λ (q : PlanStatus). q.number) p,
            )
        | inr same ↦ sound.at_step stamp key plan (sym (of_stamp stamp) ∙ is) (omega (arith, same, some))
      ]

      high : (slot (After w h) w.key).version ≡ position h + 1
      high = elim (version-put w h w.key) [ inl e ↦ e.1 | inr e ↦ absurd (e.0 refl) ]

      landed : (v : ℕ) (stamp : Stamp) (key : Key) (state : StepState) → w.key ≡ key → state ≡ Aimed v → StateFits state stamp key (slot h key) → StateFits state stamp key (slot (After w h) key)
      landed v stamp key Unknown at is f = absurd (cc)
      landed v stamp key (Aimed m) at is f =
          let high' : (slot (After w h) key).version ≡ position h + 1 = subst (λ k. (slot (After w h) k).version ≡ position h + 1) at high in
          (omega (arith, high', f.0, sound.versions key), λ e. absurd (omega (arith, e, high', f.0, sound.versions key)))
      landed v stamp key Created at is f = absurd (cc)
      landed v stamp key Present at is f = absurd (cc)
      landed v stamp key Overtaken at is f = absurd (cc)

      states : (key : Key) (plan : PlanStatus) (i : ℕ) (s : Step) → is_plan_key key ≡ true → last_plan (After w h) key ≡ Some plan → slice_get plan.steps i ≡ Some s
          → StateFits s.state (step_stamp key plan i) s.key (slot (After w h) s.key)
      states key plan i s kind is at = elim (counts (step_stamp key plan i) s.key) [
        | inl new ↦
            let was : last_plan h key ≡ Some plan = sym (same_plans key kind) ∙ is in
            let named : key_of lands.stamp ≡ key = ap key_of new.0 ∙ sym (sound.plans key plan kind was).named in
            let t : last_plan h key ≡ Some lands.plan = ap (λ k. last_plan h k) (sym named) ∙ lands.last in
            let p : lands.plan ≡ plan = cc in
            let n : lands.stamp.step ≡ i = ap (λ (x : Stamp). x.step) new.0 in
            let at' : slice_get plan.steps i ≡ Some lands.step = subst (λ m. slice_get plan.steps m ≡ Some lands.step) n (ap (λ (q : PlanStatus). slice_get q.steps lands.stamp.step) (sym p) ∙ lands.at) in
            let same_step : lands.step ≡ s = Some-same _ _ _ at' at in
            landed (slot h w.key).version (step_stamp key plan i) s.key s.state new.1 (ap (λ (x : Step). x.state) (sym same_step) ∙ lands.aimed) (sound.states key plan i s kind was at)
        | inr same ↦ fits_kept w h sound (step_stamp key plan i) s.key s.state same (sound.states key plan i s kind (sym (same_plans key kind) ∙ is) at)
      ]
