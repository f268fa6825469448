-- Each write by Installer for a plan raises the plan's effort, which is bounded.
use Rattle.std.proofs.Common.{Bool, true, false, cond, ◌&&◌, ◌||◌, ◌≡◌, ◌≤◌, ⊎_elim, List, [], ℕ, Option, Some, None, refl, sym, ap, ◌∙◌, arith, inl, inr, subst, ◌+◌, ◌*◌, length}
use Rattle.std.specs.List.{list_any}
use Rattle.cluster_objects.specs.Keys.{same_key}
use Rattle.cluster_objects.specs.Kinds.{is_plan_key}
use Rattle.cluster_objects.specs.Stamps.{times, stamps_of}
use Rattle.cluster_history.specs.History.{History, Start, After, slot}
use Rattle.lawful_history.specs.Counting.{is_installer, is_for, writes_for}
use Rattle.lawful_history.specs.Installing.{install_key, key_of, step_stamp}
use Rattle.lawful_history.specs.Lawful.{last_plan}
use Rattle.lawful_history.specs.Sound.{IsLawful}
use Rattle.lawful_history.proofs.Invariant.{IsSoundHistory}
use Rattle.cluster_objects.specs.declared.keys.Key.{Key}
use Rattle.cluster_objects.specs.declared.keys.Stamp.{Stamp}
use Rattle.cluster_objects.specs.declared.plans.StepState.{StepState}
use Rattle.cluster_objects.specs.declared.plans.PlanStatus.{PlanStatus}
use Rattle.cluster_objects.specs.declared.objects.Write.{Write}
use Rattle.cluster_objects.proofs.Ordering.{same_key-true}
use Rattle.cluster_objects.proofs.Stamping.{times-same}
use Rattle.std.proofs.lemmas.Bool.{false_from_ne_true}
use Rattle.lawful_history.proofs.Allowing.{Effect}
use Rattle.lawful_history.proofs.Efforts.{effort, effort-is, effort-bound, last_effort, weigh-mono, weigh-more, step_effort, state_effort, state_effort-mono, aimed-effort}
use Rattle.lawful_history.proofs.Landing.{Lands, same_plans, counts}
use Rattle.lawful_history.proofs.Law.{newest, sound}
use Rattle.lawful_history.proofs.Slots.{in_slot, in_slot-grows, in_slot-written}
use Rattle.lawful_history.proofs.Steps.{Leaves, Plans}

one : Bool → ℕ
one b = cond b 1 0

one-le : (b : Bool) → one b ≤ 1
unfolding one
one-le true = omega arith
one-le false = omega arith

-- a plan's effort doesn't fall by a write of something else
effort-mono : (w : Write) (h : History) (key : Key) (plan : PlanStatus) → effort h key plan ≤ effort (After w h) key plan
effort-mono w h key plan = omega (
  arith,
  effort-is h key plan,
  effort-is (After w h) key plan,
  weigh-mono (step_effort h key plan) (step_effort (After w h) key plan) plan.steps 0 (λ j s at. state_effort-mono s.state _ _ (in_slot-grows (step_stamp key plan (0 + j)) w h s.key)),
)

last-mono : (w : Write) (h : History) (key : Key) (o : Option PlanStatus) → last_effort h key o ≤ last_effort (After w h) key o
unfolding last_effort
last-mono w h key None = omega arith
last-mono w h key (Some plan) = effort-mono w h key plan

-- a write without a stamp is for a plan only where it is of the plan's key
for_bare : (key : Key) (w : Write) → stamps_of w.object ≡ [] → (w.key ≡ key → is_installer w.by ≡ false) → is_for key w ≡ false
for_bare key w bare by = by_test (is_installer w.by) refl (same_key w.key key) refl
  where
    any : list_any (λ (stamp : Stamp). same_key (key_of stamp) key) (stamps_of w.object) ≡ false
    any = ap (λ (xs : List Stamp). list_any (λ (stamp : Stamp). same_key (key_of stamp) key) xs) bare

    by_test : (i : Bool) → is_installer w.by ≡ i → (k : Bool) → same_key w.key key ≡ k → (i && (k || list_any (λ (stamp : Stamp). same_key (key_of stamp) key) (stamps_of w.object))) ≡ false
    by_test false e k f = refl
    by_test true e true f = absurd (let x = by (same_key-true w.key key f) in cc)
    by_test true e false f = any

one-false : one false ≡ 0
unfolding one
one-false = refl

one-is : (b : Bool) → one b ≡ cond b 1 0
unfolding one
one-is b = refl

last-none : (h : History) (key : Key) → last_effort h key None ≡ 0
unfolding last_effort
last-none h key = refl

last-some : (h : History) (key : Key) (plan : PlanStatus) → last_effort h key (Some plan) ≡ effort h key plan
unfolding last_effort
last-some h key plan = refl

-- a stamp is that of the step that it names
named : (stamp : Stamp) (plan : PlanStatus) → stamp.plan ≡ plan.number → step_stamp (key_of stamp) plan stamp.step ≡ stamp
unfolding install_key
named stamp plan number = ap (λ n. let x : Stamp = record { namespace = stamp.namespace; plan = n; step = stamp.step } in x) (sym number)

for-le : (key : Key) (w : Write) → one (is_for key w) ≤ one (is_installer w.by)
unfolding one
for-le key w = by_test (is_installer w.by) (same_key w.key key || list_any (λ (stamp : Stamp). same_key (key_of stamp) key) (stamps_of w.object))
  where
    by_test : (i k : Bool) → cond (i && k) 1 0 ≤ cond i 1 0
    by_test true true = omega arith
    by_test true false = omega arith
    by_test false k = omega arith

module _ (w : Write) (h : History) (s : IsSoundHistory h) (key : Key) (kind : is_plan_key key ≡ true) where
  Rises : Type 0
  Rises = last_effort h key (last_plan h key) + one (is_for key w) ≤ last_effort (After w h) key (last_plan (After w h) key)

  rises-leaves : stamps_of w.object ≡ [] → Leaves h w key → Rises
  unfolding Rises
  rises-leaves bare leaves = omega (
    arith,
    last-mono w h key (last_plan h key),
    ap (last_effort (After w h) key) leaves.last,
    ap one (for_bare key w bare leaves.by),
    one-false,
  )

  rises-plans : Plans h w key → Rises
  unfolding Rises
  rises-plans new = by_last (last_plan h key) refl
    where
      e : last_plan (After w h) key ≡ Some new.0
      e = new.2

      after : last_effort (After w h) key (last_plan (After w h) key) ≡ effort (After w h) key new.0
      after = ap (last_effort (After w h) key) e ∙ last-some (After w h) key new.0

      by_last : (o : Option PlanStatus) → last_plan h key ≡ o → last_effort h key o + one (is_for key w) ≤ last_effort (After w h) key (last_plan (After w h) key)
      by_last None was =
          let by : is_installer w.by ≡ false = (new.3.first (ap (λ k. last_plan h k) (sym new.1) ∙ was)).1 in
          omega (arith, last-none h key, for-le key w, ap one by, one-false)
      by_last (Some p₀) was =
          let more = new.3.effort p₀ (ap (λ k. last_plan h k) (sym new.1) ∙ was) in
          omega (
            arith,
            last-some h key p₀,
            for-le key w,
            one-is (is_installer w.by),
            after,
            effort-mono w h key new.0,
            more,
            ap (λ k. effort h k p₀) new.1,
            ap (λ k. effort h k new.0) new.1,
          )

  rises-lands : Lands h w → Rises
  unfolding Rises
  rises-lands lands = by_key (same_key (key_of lands.stamp) key) refl
    where
      same : last_plan (After w h) key ≡ last_plan h key
      same = same_plans w h s lands key kind

      other : same_key w.key key ≡ false
      other = false_from_ne_true (same_key w.key key) (λ t. let e : is_plan_key w.key ≡ true = ap is_plan_key (same_key-true w.key key t) ∙ kind in let f = lands.no_plan in cc)

      for : is_for key w ≡ (same_key (key_of lands.stamp) key || false)
      for =
          ap (λ b. b && (same_key w.key key || list_any (λ (stamp : Stamp). same_key (key_of stamp) key) (stamps_of w.object))) lands.by
          ∙ ap (λ b. b || list_any (λ (stamp : Stamp). same_key (key_of stamp) key) (stamps_of w.object)) other
          ∙ ap (λ (xs : List Stamp). list_any (λ (stamp : Stamp). same_key (key_of stamp) key) xs) lands.carries

      by_key : (b : Bool) → same_key (key_of lands.stamp) key ≡ b → last_effort h key (last_plan h key) + one (is_for key w) ≤ last_effort (After w h) key (last_plan (After w h) key)
      by_key false apart = omega (arith, last-mono w h key (last_plan h key), ap (last_effort (After w h) key) same, ap one (for ∙ ap (λ b. b || false) apart), one-false)
      by_key true is =
          let at : key_of lands.stamp ≡ key = same_key-true (key_of lands.stamp) key is in
          let last : last_plan h key ≡ Some lands.plan = ap (λ k. last_plan h k) (sym at) ∙ lands.last in
          let own : step_stamp key lands.plan lands.stamp.step ≡ lands.stamp = stamp_is at in
          let before : in_slot (step_stamp key lands.plan lands.stamp.step) h lands.step.key ≡ 0 =
          ap (λ k. in_slot (step_stamp key lands.plan lands.stamp.step) h k) lands.key ∙ ap (λ (x : Stamp). in_slot x h w.key) own ∙ lands.absent in
          let after : in_slot (step_stamp key lands.plan lands.stamp.step) (After w h) lands.step.key ≡ 1 =
          ap (λ k. in_slot (step_stamp key lands.plan lands.stamp.step) (After w h) k) lands.key ∙ ap (λ (x : Stamp). in_slot x (After w h) w.key) own ∙ now_one in
          let z : 0 + lands.stamp.step ≡ lands.stamp.step = omega arith in
          omega (
            arith,
            ap (last_effort h key) last,
            ap (last_effort (After w h) key) (same ∙ last),
            last-some h key lands.plan,
            last-some (After w h) key lands.plan,
            effort-is h key lands.plan,
            effort-is (After w h) key lands.plan,
            one-le (is_for key w),
            weigh-more (step_effort h key lands.plan) (step_effort (After w h) key lands.plan) lands.plan.steps 0 lands.stamp.step lands.step lands.at
                (subst (λ n. step_effort h key lands.plan n lands.step + 1 ≤ step_effort (After w h) key lands.plan n lands.step) (sym z) (raised before after))
                (λ j t at. state_effort-mono t.state _ _ (in_slot-grows (step_stamp key lands.plan (0 + j)) w h t.key)),
          )
        where
          stamp_is : key_of lands.stamp ≡ key → step_stamp key lands.plan lands.stamp.step ≡ lands.stamp
          stamp_is at = ap (λ k. step_stamp k lands.plan lands.stamp.step) (sym at) ∙ named lands.stamp lands.plan lands.number

          grown : in_slot lands.stamp (After w h) w.key ≡ in_slot lands.stamp h w.key → ⊥
          grown e = omega (
            arith,
            e,
            in_slot-written lands.stamp w h w.key refl,
            ap (λ (xs : List Stamp). times lands.stamp xs) lands.carries,
            times-same lands.stamp,
          )

          now_one : in_slot lands.stamp (After w h) w.key ≡ 1
          now_one = ⊎_elim (λ new. new.2) (λ as_before. absurd (grown as_before)) (counts w h s lands lands.stamp w.key)

          raised : in_slot (step_stamp key lands.plan lands.stamp.step) h lands.step.key ≡ 0 → in_slot (step_stamp key lands.plan lands.stamp.step) (After w h) lands.step.key ≡ 1
              → step_effort h key lands.plan lands.stamp.step lands.step + 1 ≤ step_effort (After w h) key lands.plan lands.stamp.step lands.step
          raised before after = omega (
            arith,
            ap (λ (x : StepState). state_effort x (in_slot (step_stamp key lands.plan lands.stamp.step) h lands.step.key)) lands.aimed,
            ap (λ (x : StepState). state_effort x (in_slot (step_stamp key lands.plan lands.stamp.step) (After w h) lands.step.key)) lands.aimed,
            aimed-effort (slot h w.key).version (in_slot (step_stamp key lands.plan lands.stamp.step) h lands.step.key),
            aimed-effort (slot h w.key).version (in_slot (step_stamp key lands.plan lands.stamp.step) (After w h) lands.step.key),
            before,
            after,
          )

  rises : Effect h w → Rises
  rises (inl e) = ⊎_elim (λ leaves. rises-leaves e.0 leaves) (λ new. rises-plans new) (e.1 key kind)
  rises (inr e) = rises-lands e

  risen : Effect h w → last_effort h key (last_plan h key) + one (is_for key w) ≤ last_effort (After w h) key (last_plan (After w h) key)
  unfolding Rises
  risen e = rises e

-- the writes for a plan are at most its effort
writes-le : (is_valid : List ℕ → Bool) (h : History) (key : Key) → is_plan_key key ≡ true → IsLawful is_valid h → writes_for key h ≤ last_effort h key (last_plan h key)
unfolding writes_for one
writes-le is_valid (Start base) key kind lawful = omega arith
writes-le is_valid (After w h) key kind lawful =
    omega (arith, writes-le is_valid h key kind lawful.2, risen w h (sound is_valid h lawful.2) key kind (newest is_valid h w lawful))

-- at most three for each step, and two for the phases
pub writes-bound : (is_valid : List ℕ → Bool) (h : History) (key : Key) (plan : PlanStatus) → is_plan_key key ≡ true → IsLawful is_valid h → last_plan h key ≡ Some plan → writes_for key h ≤ 3 * length plan.steps + 2
writes-bound is_valid h key plan kind lawful last =
    omega (
      arith,
      writes-le is_valid h key kind lawful,
      ap (last_effort h key) last,
      last-some h key plan,
      effort-bound h key plan (λ stamp k. (sound is_valid h lawful).once stamp k),
    )

-- and none where there never was a plan
pub writes-none : (is_valid : List ℕ → Bool) (h : History) (key : Key) → is_plan_key key ≡ true → IsLawful is_valid h → last_plan h key ≡ None → writes_for key h ≡ 0
writes-none is_valid h key kind lawful last = omega (arith, writes-le is_valid h key kind lawful, ap (last_effort h key) last, last-none h key)
