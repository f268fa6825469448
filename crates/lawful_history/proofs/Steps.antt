-- Soundness is kept by a write without a stamp, and a history goes on by each write.
use Rattle.std.proofs.Common.{◌≡◌, ◌≢◌, ◌≤◌, ◌<◌, ◌+◌, ◌⊎◌, ⊎_elim, true, false, cond, [], ℕ, Option, Some, None, refl, sym, ap, ◌∙◌, arith, inl, inr, subst}
use Rattle.std.specs.Option.{option_or}
use Rattle.std.specs.List.{slice_get}
use Rattle.cluster_objects.specs.Stamps.{stamps_of, times}
use Rattle.cluster_objects.specs.Kinds.{as_plan, is_plan_key}
use Rattle.cluster_history.specs.History.{History, After, position, slot}
use Rattle.lawful_history.specs.Counting.{is_installer}
use Rattle.lawful_history.specs.Installing.{install_key, key_of, step_stamp, is_kept}
use Rattle.lawful_history.specs.Lawful.{last_plan, started, is_installing, is_installing_phase, StateLater, PlanLater, IsPlan}
use Rattle.lawful_history.specs.Sound.{WaitsForApproval, IsUntouchedEarly}
use Rattle.lawful_history.proofs.Invariant.{StateFits, IsSoundHistory, GoesOn}
use Rattle.cluster_objects.specs.declared.keys.Key.{Key}
use Rattle.cluster_history.specs.declared.slots.Slot.{Slot}
use Rattle.cluster_objects.specs.declared.keys.Stamp.{Stamp}
use Rattle.cluster_objects.specs.declared.plans.Step.{Step}
use Rattle.cluster_objects.specs.declared.plans.StepState.{StepState}
use Rattle.cluster_objects.specs.declared.plans.StepState.TheVariants.{Unknown, Aimed, Created, Present, Overtaken}
use Rattle.cluster_objects.specs.declared.plans.PlanPhase.TheVariants as phase
use Rattle.cluster_objects.specs.declared.objects.Object.{Object}
use Rattle.cluster_objects.specs.declared.objects.Status.{Status}
use Rattle.cluster_objects.specs.declared.objects.Status.TheVariants.{Plain, Catalog, Subscription, Csv, Deployment, Plan, Resolution, Strategy, Group, Claims, Lease}
use Rattle.cluster_objects.specs.declared.plans.PlanStatus.{PlanStatus}
use Rattle.cluster_objects.specs.declared.objects.Write.{Write}
use Rattle.lawful_history.proofs.Efforts.{effort}
use Rattle.lawful_history.proofs.Slots.{same_or_other, last_plan-written, last_plan-other, in_slot, in_slot-unstamped, in_slot-grows, version-put, started-before, started-kept, started-now}
use Rattle.lawful_history.proofs.Later.{PlanLater-trans}

pub is_plan_key-key_of : (stamp : Stamp) → is_plan_key (key_of stamp) ≡ true
unfolding install_key
is_plan_key-key_of stamp = refl

-- a write leaves the newest plan of a key as it is, and is none by Installer there
pub record Leaves (h : History) (w : Write) (key : Key) : Type 0 where
  pub last : last_plan (After w h) key ≡ last_plan h key
  pub object : w.key ≡ key → w.object ≡ None
  pub by : w.key ≡ key → is_installer w.by ≡ false

-- the plan that a write puts at its key
pub record Planned (h : History) (w : Write) (p : PlanStatus) : Type 0 where
  pub plan : IsPlan w.key p
  pub fits : (i : ℕ) (s : Step) → slice_get p.steps i ≡ Some s → StateFits s.state (step_stamp w.key p i) s.key (slot h s.key)
  pub later : (p₀ : PlanStatus) → last_plan h w.key ≡ Some p₀ → PlanLater p₀ p
  pub first : last_plan h w.key ≡ None → ((slot h w.key).version ≡ 0) × (is_installer w.by ≡ false)
  pub waiting : started h w.key ≡ false → (i : ℕ) (s : Step) → slice_get p.steps i ≡ Some s → s.state ≡ Unknown
  pub waits : WaitsForApproval p
  pub early : IsUntouchedEarly p
  pub there : ((slot h w.key).version ≡ 0) ⊎ ((q : PlanStatus) × (as_plan (slot h w.key).object ≡ Some q))
  pub overtakes : (p₀ : PlanStatus) (i : ℕ) (s t : Step) → last_plan h w.key ≡ Some p₀ → slice_get p₀.steps i ≡ Some s → slice_get p.steps i ≡ Some t → t.state ≡ Overtaken
      → (s.state ≡ Overtaken) ⊎ ((m : ℕ) × (s.state ≡ Aimed m) × (m < (slot h s.key).version))
  pub effort : (p₀ : PlanStatus) → last_plan h w.key ≡ Some p₀ → effort h w.key p₀ + cond (is_installer w.by) 1 0 ≤ effort h w.key p

abbrev pub Plans : History → Write → Key → Type 0
Plans h w key = (p : PlanStatus) × (key ≡ w.key) × (last_plan (After w h) key ≡ Some p) × Planned h w p

-- what a write does to the newest plans
abbrev pub Changes : History → Write → Type 0
Changes h w = (key : Key) → is_plan_key key ≡ true → Leaves h w key ⊎ Plans h w key

-- a stamp stands in a slot as often as before, or this is the step that is aimed at the slot's version
pub record LandsAt (h : History) (stamp : Stamp) (key : Key) : Type 0 where
  pub plan : PlanStatus
  pub step : Step
  pub last : last_plan h (key_of stamp) ≡ Some plan
  pub at : slice_get plan.steps stamp.step ≡ Some step
  pub aimed : step.state ≡ Aimed (slot h key).version

abbrev pub Steady : History → Write → Type 0
Steady h w = (stamp : Stamp) (key : Key) → (in_slot stamp (After w h) key ≡ in_slot stamp h key) ⊎ LandsAt h stamp key

pub Some-same : {A : Type 0} (x y : A) (o : Option A) → o ≡ Some x → o ≡ Some y → x ≡ y
Some-same x y o p q = cc

installing-is : (o : Option Object) (p : PlanStatus) → as_plan o ≡ Some p → p.phase ≡ phase.Installing → is_installing o ≡ true
installing-is None p is e = cc
installing-is (Some object) p is e = by_status object.status is
  where
    by_status : (st : Status) → elim st [ Plan plan ↦ Some plan | _ ↦ None ] ≡ Some p → elim st [ Plan plan ↦ is_installing_phase plan.phase | _ ↦ false ] ≡ true
    by_status (Plan plan) is = ap is_installing_phase (let s : plan ≡ p = cc in ap (λ (x : PlanStatus). x.phase) s ∙ e)
    by_status Plain is = cc
    by_status (Catalog x) is = cc
    by_status (Subscription x) is = cc
    by_status (Csv x) is = cc
    by_status (Deployment x) is = cc
    by_status (Resolution x) is = cc
    by_status (Strategy x) is = cc
    by_status (Group x) is = cc
    by_status (Claims x) is = cc
    by_status (Lease x) is = cc

or_is : (o : Option PlanStatus) (r : Option PlanStatus) (p : PlanStatus) → option_or o r ≡ Some p → (o ≡ Some p) ⊎ (r ≡ Some p)
or_is None r p is = inr is
or_is (Some q) r p is = inl is

-- a key that has no slot had none before
pub was_unwritten : (w : Write) (h : History) (key : Key) → (slot (After w h) key).version ≡ 0 → (slot h key).version ≡ 0
was_unwritten w h key is = elim (version-put w h key) [
  | inl e ↦ absurd (omega (arith, e.1, is))
  | inr e ↦ sym (ap (λ (x : Slot). x.version) e.1) ∙ is
]

-- an aimed step that is still aimed has its version, and was so all the time
still_aimed : (v : ℕ) (mid new : StepState) → StateLater (Aimed v) mid → StateLater mid new → new ≡ Aimed v → mid ≡ Aimed v
still_aimed v mid new (inl e) n is = e
still_aimed v mid new (inr (inl e)) n is = absurd (let m : new ≡ Created = subst (λ (x : StepState). StateLater x new) e n in cc)
still_aimed v mid new (inr (inr e)) n is = absurd (let m : new ≡ Overtaken = subst (λ (x : StepState). StateLater x new) e n in cc)

same_aim : (v m : ℕ) (mid : StepState) → StateLater (Aimed v) mid → mid ≡ Aimed m → m ≡ v
same_aim v m mid (inl e) is = cc
same_aim v m mid (inr (inl e)) is = absurd (cc)
same_aim v m mid (inr (inr e)) is = absurd (cc)

module _ (w : Write) (h : History) (sound : IsSoundHistory h) where
  pub version-grows : (key : Key) → (slot h key).version ≤ (slot (After w h) key).version
  version-grows key = elim (version-put w h key) [
    | inl e ↦ omega (arith, e.1, sound.versions key)
    | inr e ↦ let s = ap (λ (x : Slot). x.version) e.1 in omega (arith, s)
  ]

  pub begun_kept : (key : Key) (plan : PlanStatus) → last_plan (After w h) key ≡ Some plan → plan.phase ≡ phase.Installing → started (After w h) key ≡ true
  begun_kept key plan is e = elim (same_or_other w h key) [
    | inl same ↦ ⊎_elim (λ put. started-now w h key same.0 (installing-is w.object plan put e)) (λ old. started-kept w h key (sound.begun key plan old e)) (or_is (as_plan w.object) (last_plan h key) plan (sym (last_plan-written w h key same.0) ∙ is))
    | inr other ↦ started-kept w h key (sound.begun key plan (sym (last_plan-other w h key other.0) ∙ is) e)
  ]

  pub there_kept : (key : Key) (plan : PlanStatus) → is_plan_key key ≡ true → as_plan (slot (After w h) key).object ≡ Some plan → last_plan (After w h) key ≡ Some plan
  there_kept key plan kind is = elim (same_or_other w h key) [
    | inl e ↦
        let is' : as_plan w.object ≡ Some plan = sym (ap (λ (x : Slot). as_plan x.object) e.1) ∙ is in
        last_plan-written w h key e.0 ∙ ap (λ o. option_or o (last_plan h key)) is'
    | inr e ↦ last_plan-other w h key e.0 ∙ sound.there key plan kind (sym (ap (λ (x : Slot). as_plan x.object) e.1) ∙ is)
  ]

  pub versions_kept : (key : Key) → (slot (After w h) key).version ≤ position (After w h)
  versions_kept key = elim (version-put w h key) [
    | inl e ↦ omega (arith, e.1)
    | inr e ↦ let s = ap (λ (x : Slot). x.version) e.1 in omega (arith, s, sound.versions key)
  ]

  pub apart_kept : (a b : Key) → (slot (After w h) a).version ≡ (slot (After w h) b).version → 0 < (slot (After w h) a).version → a ≡ b
  apart_kept a b same some = both (version-put w h a) (version-put w h b)
    where
      Put : Key → Type 0
      Put k = ((w.key ≡ k) × ((slot (After w h) k).version ≡ position h + 1)) ⊎ ((w.key ≢ k) × (slot (After w h) k ≡ slot h k))

      both : Put a → Put b → a ≡ b
      both (inl e) (inl f) = sym e.0 ∙ f.0
      both (inl e) (inr f) = absurd (let s = ap (λ (x : Slot). x.version) f.1 in omega (arith, e.1, same, s, sound.versions b))
      both (inr e) (inl f) = absurd (let s = ap (λ (x : Slot). x.version) e.1 in omega (arith, f.1, same, s, sound.versions a))
      both (inr e) (inr f) =
          let s : (slot (After w h) a).version ≡ (slot h a).version = ap (λ (x : Slot). x.version) e.1 in
          let t : (slot (After w h) b).version ≡ (slot h b).version = ap (λ (x : Slot). x.version) f.1 in
          sound.apart a b (sym s ∙ same ∙ t) (omega (arith, s, some))

  pub written_kept : (key : Key) → (slot (After w h) key).version ≡ 0 → last_plan (After w h) key ≡ None
  written_kept key zero_is = elim (version-put w h key) [
    | inl e ↦ absurd (omega (arith, e.1, zero_is))
    | inr e ↦ last_plan-other w h key e.0 ∙ sound.written key (sym (ap (λ (x : Slot). x.version) e.1) ∙ zero_is)
  ]

  module _ (changes : Changes h w) where
    -- what holds of a plan by itself
    of_plan : (P : Key → PlanStatus → Type 0) → ((key : Key) (plan : PlanStatus) → is_plan_key key ≡ true → last_plan h key ≡ Some plan → P key plan) → ((p : PlanStatus) → Planned h w p → P w.key p)
        → (key : Key) (plan : PlanStatus) → is_plan_key key ≡ true → last_plan (After w h) key ≡ Some plan → P key plan
    of_plan P old new key plan kind is = elim (changes key kind) [
      | inl same ↦ old key plan kind (sym same.last ∙ is)
      | inr put ↦ subst (λ k. P k plan) (sym put.1) (subst (λ q. P w.key q) (Some-same _ _ _ put.2 is) (new put.0 put.3))
    ]

    pub plans_kept : (key : Key) (plan : PlanStatus) → is_plan_key key ≡ true → last_plan (After w h) key ≡ Some plan → IsPlan key plan
    plans_kept = of_plan IsPlan sound.plans (λ p put. put.plan)

    pub waits_kept : (key : Key) (plan : PlanStatus) → is_plan_key key ≡ true → last_plan (After w h) key ≡ Some plan → WaitsForApproval plan
    waits_kept = of_plan (λ key plan. WaitsForApproval plan) sound.waits (λ p put. put.waits)

    pub early_kept : (key : Key) (plan : PlanStatus) → is_plan_key key ≡ true → last_plan (After w h) key ≡ Some plan → IsUntouchedEarly plan
    early_kept = of_plan (λ key plan. IsUntouchedEarly plan) sound.early (λ p put. put.early)

  -- the state of a step fits the slot of its key after a write that doesn't carry its stamp
  pub fits_kept : (stamp : Stamp) (key : Key) (state : StepState) → in_slot stamp (After w h) key ≡ in_slot stamp h key → StateFits state stamp key (slot h key) → StateFits state stamp key (slot (After w h) key)
  fits_kept stamp key Unknown same fits = same ∙ fits
  fits_kept stamp key (Aimed v) same fits = elim (version-put w h key) [
    | inl e ↦ (omega (arith, e.1, fits.0, sound.versions key), λ is. absurd (omega (arith, e.1, fits.0, sound.versions key, is)))
    | inr e ↦
        let s = ap (λ (x : Slot). x.version) e.1 in
        (omega (arith, s, fits.0), λ is. (same ∙ (fits.1 (is ∙ s)).0, ap (λ (x : Slot). is_kept key x.object) e.1 ∙ (fits.1 (is ∙ s)).1))
  ]
  fits_kept stamp key Created same fits = same ∙ fits
  fits_kept stamp key Present same fits = same ∙ fits
  fits_kept stamp key Overtaken same fits = same ∙ fits

  -- a write without a stamp
  module _ (bare : stamps_of w.object ≡ []) (changes : Changes h w) where
    pub steady-unstamped : Steady h w
    steady-unstamped stamp key = inl (in_slot-unstamped stamp w h key bare)

    pub sound-unstamped : IsSoundHistory (After w h)
    sound-unstamped = record {
      versions = versions_kept;
      apart = apart_kept;
      there = there_kept;
      written = written_kept;
      plans = plans_kept changes;
      waits = waits_kept changes;
      early = early_kept changes;
      fresh = λ stamp key is. in_slot-unstamped stamp w h key bare ∙ sound.fresh stamp key (was_unwritten w h (key_of stamp) is);
      at_step = λ stamp key plan is some. at_step stamp key plan is (omega (arith, some, in_slot-unstamped stamp w h key bare)) (changes (key_of stamp) (is_plan_key-key_of stamp)) (last_plan h (key_of stamp)) refl;
      once = λ stamp key. omega (arith, in_slot-unstamped stamp w h key bare, sound.once stamp key);
      states = λ key plan i s kind is at. fits_kept (step_stamp key plan i) s.key s.state (in_slot-unstamped (step_stamp key plan i) w h s.key bare) (states key plan i s kind is at (changes key kind));
      begun = begun_kept;
      idle = λ stamp key is. in_slot-unstamped stamp w h key bare ∙ sound.idle stamp key (started-before w h (key_of stamp) is);
      waiting = λ key plan i s kind is unstarted at. waiting key plan i s kind is unstarted at (changes key kind);
    }
      where
        at_step : (stamp : Stamp) (key : Key) (plan : PlanStatus) → last_plan (After w h) (key_of stamp) ≡ Some plan → 0 < in_slot stamp h key → Leaves h w (key_of stamp) ⊎ Plans h w (key_of stamp) → (o : Option PlanStatus) → last_plan h (key_of stamp) ≡ o
            → (s : Step) × (slice_get plan.steps stamp.step ≡ Some s) × (s.key ≡ key) × (stamp.plan ≡ plan.number)
        at_step stamp key plan is some (inl same) o was = sound.at_step stamp key plan (sym same.last ∙ is) some
        at_step stamp key plan is some (inr new) None was = absurd (omega (arith, some, sound.fresh stamp key (ap (λ k. (slot h k).version) new.1 ∙ (new.3.first (ap (λ k. last_plan h k) (sym new.1) ∙ was)).0)))
        at_step stamp key plan is some (inr new) (Some p₀) was =
            let old = sound.at_step stamp key p₀ was some in
            let later = new.3.later p₀ (ap (λ k. last_plan h k) (sym new.1) ∙ was) in
            let moved = later.steps stamp.step old.0 old.1 in
            let e : plan ≡ new.0 = Some-same _ _ _ is new.2 in
            (moved.0, ap (λ (q : PlanStatus). slice_get q.steps stamp.step) e ∙ moved.1, moved.2.key ∙ old.2, old.3 ∙ sym later.number ∙ sym (ap (λ (q : PlanStatus). q.number) e))

        states : (key : Key) (plan : PlanStatus) (i : ℕ) (s : Step) → is_plan_key key ≡ true → last_plan (After w h) key ≡ Some plan → slice_get plan.steps i ≡ Some s
            → Leaves h w key ⊎ Plans h w key → StateFits s.state (step_stamp key plan i) s.key (slot h s.key)
        states key plan i s kind is at (inl same) = sound.states key plan i s kind (sym same.last ∙ is) at
        states key plan i s kind is at (inr new) =
            let e : new.0 ≡ plan = Some-same _ _ _ new.2 is in
            subst (λ k. StateFits s.state (step_stamp k plan i) s.key (slot h s.key)) (sym new.1)
            (subst (λ q. StateFits s.state (step_stamp w.key q i) s.key (slot h s.key)) e (new.3.fits i s (ap (λ (q : PlanStatus). slice_get q.steps i) e ∙ at)))

        waiting : (key : Key) (plan : PlanStatus) (i : ℕ) (s : Step) → is_plan_key key ≡ true → last_plan (After w h) key ≡ Some plan → started (After w h) key ≡ false → slice_get plan.steps i ≡ Some s
            → Leaves h w key ⊎ Plans h w key → s.state ≡ Unknown
        waiting key plan i s kind is unstarted at (inl same) = sound.waiting key plan i s kind (sym same.last ∙ is) (started-before w h key unstarted) at
        waiting key plan i s kind is unstarted at (inr new) =
            let e : new.0 ≡ plan = Some-same _ _ _ new.2 is in
            new.3.waiting (ap (λ k. started h k) (sym new.1) ∙ started-before w h key unstarted) i s (ap (λ (q : PlanStatus). slice_get q.steps i) e ∙ at)

  -- the history goes on from each older one
  module _ (changes : Changes h w) (steady : Steady h w) (old : History) (so_far : GoesOn old h) where
    pub goes_on : GoesOn old (After w h)
    goes_on = record {
      begun = λ key is. started-kept w h key (so_far.begun key is);
      versions = λ key. omega (arith, so_far.versions key, version-grows key);
      same = λ key is. elim (version-put w h key) [
        | inl e ↦ absurd (omega (arith, e.1, so_far.versions key, sound.versions key, is))
        | inr e ↦ so_far.same key (is ∙ ap (λ (x : Slot). x.version) e.1) ∙ sym e.1
      ];
      stamps = λ stamp key. omega (arith, so_far.stamps stamp key, in_slot-grows stamp w h key);
      plans = λ key plan kind is. let mid = so_far.plans key plan kind is in elim (changes key kind) [
        | inl same ↦ (mid.0, same.last ∙ mid.1, mid.2)
        | inr new ↦ (new.0, new.2, PlanLater-trans plan mid.0 new.0 mid.2 (new.3.later mid.0 (ap (λ k. last_plan h k) (sym new.1) ∙ mid.1)))
      ];
      gone = λ key kind some none. gone key some (so_far.gone key kind some none) (changes key kind);
      passed = λ key plan later i s t v kind last at aimed now at' over. passed key plan later i s t v kind last at aimed now at' over (so_far.plans key plan kind last) (changes key kind);
      stays = λ key plan later i s t v kind last at aimed past now at' is. stays key plan later i s t v kind last at aimed past now at' is (so_far.plans key plan kind last) (changes key kind);
    }
      where
        gone : (key : Key) → 0 < (slot old key).version → (slot h key).object ≡ None → Leaves h w key ⊎ Plans h w key → (slot (After w h) key).object ≡ None
        gone key some none (inl same) = elim (same_or_other w h key) [
          | inl e ↦ ap (λ (x : Slot). x.object) e.1 ∙ same.object e.0
          | inr e ↦ ap (λ (x : Slot). x.object) e.1 ∙ none
        ]
        gone key some none (inr new) = elim new.3.there [
          | inl zero_is ↦ absurd (omega (arith, some, so_far.versions key, ap (λ k. (slot h k).version) new.1, zero_is))
          | inr one ↦ absurd (let e : None ≡ Some one.0 = sym (ap as_plan none) ∙ ap (λ k. as_plan (slot h k).object) new.1 ∙ one.1 in cc)
        ]

        Mid : Key → PlanStatus → Type 0
        Mid key plan = (later : PlanStatus) × (last_plan h key ≡ Some later) × PlanLater plan later

        passed : (key : Key) (plan later : PlanStatus) (i : ℕ) (s t : Step) (v : ℕ) → is_plan_key key ≡ true → last_plan old key ≡ Some plan → slice_get plan.steps i ≡ Some s → s.state ≡ Aimed v
            → last_plan (After w h) key ≡ Some later → slice_get later.steps i ≡ Some t → t.state ≡ Overtaken → Mid key plan → Leaves h w key ⊎ Plans h w key → v < (slot (After w h) s.key).version
        passed key plan later i s t v kind last at aimed now at' over mid (inl same) =
            omega (arith, version-grows s.key, so_far.passed key plan later i s t v kind last at aimed (sym same.last ∙ now) at' over)
        passed key plan later i s t v kind last at aimed now at' over mid (inr new) =
            let moved = mid.2.steps i s at in
            let e : new.0 ≡ later = Some-same _ _ _ new.2 now in
            let here : last_plan h w.key ≡ Some mid.0 = ap (λ k. last_plan h k) (sym new.1) ∙ mid.1 in
            ⊎_elim
            (λ was. omega (arith, version-grows s.key, so_far.passed key plan mid.0 i s moved.0 v kind last at aimed mid.1 moved.1 was))
            (λ was.
            let low : was.0 ≡ v = same_aim v was.0 moved.0.state (subst (λ (x : StepState). StateLater x moved.0.state) aimed moved.2.state) was.1 in
            omega (arith, version-grows s.key, low, was.2, ap (λ k. (slot h k).version) moved.2.key))
            (new.3.overtakes mid.0 i moved.0 t here moved.1 (ap (λ (q : PlanStatus). slice_get q.steps i) e ∙ at') over)

        -- the step in between
        between : (key : Key) (plan later : PlanStatus) (i : ℕ) (s t : Step) (v : ℕ) → slice_get plan.steps i ≡ Some s → s.state ≡ Aimed v → last_plan (After w h) key ≡ Some later → slice_get later.steps i ≡ Some t → t.state ≡ Aimed v
            → Mid key plan → Leaves h w key ⊎ Plans h w key → (q : PlanStatus) × (u : Step) × (last_plan h key ≡ Some q) × (slice_get q.steps i ≡ Some u) × (u.state ≡ Aimed v) × PlanLater plan q
        between key plan later i s t v at aimed now at' is mid (inl same) =
            let e : mid.0 ≡ later = Some-same _ _ _ mid.1 (sym same.last ∙ now) in
            (mid.0, t, mid.1, ap (λ (q : PlanStatus). slice_get q.steps i) e ∙ at', is, mid.2)
        between key plan later i s t v at aimed now at' is mid (inr new) =
            let moved = mid.2.steps i s at in
            let e : new.0 ≡ later = Some-same _ _ _ new.2 now in
            let here : last_plan h w.key ≡ Some mid.0 = ap (λ k. last_plan h k) (sym new.1) ∙ mid.1 in
            let on = (new.3.later mid.0 here).steps i moved.0 moved.1 in
            let same : on.0 ≡ t = Some-same _ _ _ on.1 (ap (λ (q : PlanStatus). slice_get q.steps i) e ∙ at') in (
              mid.0,
              moved.0,
              mid.1,
              moved.1,
              still_aimed v moved.0.state t.state (subst (λ (x : StepState). StateLater x moved.0.state) aimed moved.2.state) (subst (λ (x : Step). StateLater moved.0.state x.state) same on.2.state) is,
              mid.2,
            )

        stays : (key : Key) (plan later : PlanStatus) (i : ℕ) (s t : Step) (v : ℕ) → is_plan_key key ≡ true → last_plan old key ≡ Some plan → slice_get plan.steps i ≡ Some s → s.state ≡ Aimed v → v < (slot old s.key).version
            → last_plan (After w h) key ≡ Some later → slice_get later.steps i ≡ Some t → t.state ≡ Aimed v → Mid key plan → Leaves h w key ⊎ Plans h w key → times (step_stamp key plan i) (slot (After w h) s.key).stamps ≡ times (step_stamp key plan i) (slot old s.key).stamps
        stays key plan later i s t v kind last at aimed past now at' is mid change =
            let m = between key plan later i s t v at aimed now at' is mid change in
            let so = so_far.stays key plan m.0 i s m.1 v kind last at aimed past m.2 m.3 m.4 in
            let named : key_of (step_stamp key plan i) ≡ key = ap (λ n. install_key key.namespace n) (sym m.5.number) ∙ sym (sound.plans key m.0 kind m.2).named in
            elim (steady (step_stamp key plan i) s.key) [
              | inl same ↦ same ∙ so
              | inr lands ↦
                  let p : lands.plan ≡ m.0 = Some-same _ _ _ lands.last (ap (λ k. last_plan h k) named ∙ m.2) in
                  let u : lands.step ≡ m.1 = Some-same _ _ _ lands.at (ap (λ (q : PlanStatus). slice_get q.steps i) p ∙ m.3) in
                  let two : Aimed (slot h s.key).version ≡ Aimed v = sym lands.aimed ∙ ap (λ (x : Step). x.state) u ∙ m.4 in
                  let one : (slot h s.key).version ≡ v = cc in
                  absurd (omega (arith, past, one, so_far.versions s.key))
            ]
