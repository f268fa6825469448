-- A history that begins at a sound base is sound there.
use Rattle.std.proofs.Common.{◌≡◌, ◌≤◌, ◌<◌, ◌⊎◌, ⊎_elim, Bool, true, false, cond, not, ◌&&◌, eqb, ℕ, List, Option, Some, None, refl, sym, ap, ◌∙◌, arith, inl, inr, subst}
use Rattle.std.proofs.lemmas.Bool.{cases_lt, eqb-true, and_from, ne_eqb}
use Rattle.std.specs.List.{slice_get}
use Rattle.cluster_objects.specs.Kinds.{is_plan_key, as_plan, plan_at}
use Rattle.cluster_objects.specs.Stamps.{times}
use Rattle.cluster_history.specs.History.{Start, IsBase, state, slot, slot_in, times_in}
use Rattle.lawful_history.specs.Installing.{install_key, key_of, step_stamp}
use Rattle.lawful_history.specs.Lawful.{last_plan, started, is_early, is_early_plan}
use Rattle.lawful_history.specs.Sound.{StepStands, IsSound}
use Rattle.lawful_history.proofs.Invariant.{StateFits, IsSoundHistory}
use Rattle.cluster_objects.specs.declared.keys.Key.{Key}
use Rattle.cluster_objects.specs.declared.keys.Stamp.{Stamp}
use Rattle.cluster_history.specs.declared.slots.Slot.{Slot}
use Rattle.cluster_history.specs.declared.slots.Base.{Base}
use Rattle.cluster_objects.specs.declared.objects.Object.{Object}
use Rattle.cluster_objects.specs.declared.objects.Status.{Status}
use Rattle.cluster_objects.specs.declared.objects.Status.TheVariants.{Plain, Catalog, Subscription, Csv, Deployment, Plan, Resolution, Strategy, Group, Claims, Lease}
use Rattle.cluster_objects.specs.declared.plans.Step.{Step}
use Rattle.cluster_objects.specs.declared.plans.StepState.{StepState}
use Rattle.cluster_objects.specs.declared.plans.StepState.TheVariants.{Unknown, Aimed, Created, Present, Overtaken}
use Rattle.cluster_objects.specs.declared.plans.PlanPhase.TheVariants as phase
use Rattle.cluster_objects.specs.declared.plans.PlanStatus.{PlanStatus}
use Rattle.cluster_history.proofs.Sums.{placed, one-le-all, two-le-all, there_or_never, same_or_not}
use Rattle.lawful_history.proofs.Steps.{is_plan_key-key_of, Some-same}

-- a plan that stands at a key of plans
pub plan_at-is : (key : Key) (o : Option Object) → is_plan_key key ≡ true → plan_at key o ≡ as_plan o
plan_at-is key o kind = ap (λ b. cond b (as_plan o) None) kind

-- what waits by its status is a plan in Planning or RequiresApproval
early_of : (o : Option Object) (plan : PlanStatus) → as_plan o ≡ Some plan → is_early_plan o ≡ is_early plan.phase
early_of None plan is = absurd (cc)
early_of (Some object) plan is = by_status object.status is
  where
    by_status : (st : Status) → elim st [ Plan x ↦ Some x | _ ↦ None ] ≡ Some plan → elim st [ Plan x ↦ is_early x.phase | _ ↦ false ] ≡ is_early plan.phase
    by_status (Plan x) is = ap (λ (p : PlanStatus). is_early p.phase) (let e : x ≡ plan = cc in e)
    by_status Plain is = absurd (cc)
    by_status (Catalog x) is = absurd (cc)
    by_status (Subscription x) is = absurd (cc)
    by_status (Csv x) is = absurd (cc)
    by_status (Deployment x) is = absurd (cc)
    by_status (Resolution x) is = absurd (cc)
    by_status (Strategy x) is = absurd (cc)
    by_status (Group x) is = absurd (cc)
    by_status (Claims x) is = absurd (cc)
    by_status (Lease x) is = absurd (cc)

waits_is : (o : Option Object) → is_early_plan o ≡ true → (plan : PlanStatus) × (as_plan o ≡ Some plan) × (is_early plan.phase ≡ true)
waits_is None is = absurd (cc)
waits_is (Some object) is = by_status object.status is
  where
    by_status : (st : Status) → elim st [ Plan x ↦ is_early x.phase | _ ↦ false ] ≡ true → (plan : PlanStatus) × (elim st [ Plan x ↦ Some x | _ ↦ None ] ≡ Some plan) × (is_early plan.phase ≡ true)
    by_status (Plan x) is = (x, refl, is)
    by_status Plain is = absurd (cc)
    by_status (Catalog x) is = absurd (cc)
    by_status (Subscription x) is = absurd (cc)
    by_status (Csv x) is = absurd (cc)
    by_status (Deployment x) is = absurd (cc)
    by_status (Resolution x) is = absurd (cc)
    by_status (Strategy x) is = absurd (cc)
    by_status (Group x) is = absurd (cc)
    by_status (Claims x) is = absurd (cc)
    by_status (Lease x) is = absurd (cc)

not_and : (a b : Bool) → (not a && not b) ≡ false → (a ≡ true) ⊎ (b ≡ true)
not_and true b is = inl refl
not_and false true is = inr refl
not_and false false is = absurd (cc)

module _ (is_valid : List ℕ → Bool) (base : Base) (is_base : IsBase base) (sound : IsSound is_valid base.slots) where
  at : Key → Slot
  at key = slot_in base.slots key

  -- a slot that is there has a version of the base, and so none that isn't has an object
  numbers : (key : Key) → (at key).version ≤ base.length
  unfolding at
  numbers key = elim (cases_lt 0 (at key).version) [
    | inl some ↦ let p = placed base.slots key some in (is_base.versions p.0 (key, at key) p.1).1
    | inr none ↦ omega (arith, none)
  ]

  apart : (a b : Key) → (at a).version ≡ (at b).version → 0 < (at a).version → a ≡ b
  unfolding at
  apart a b same some =
      let p = placed base.slots a some in
      let q = placed base.slots b (omega (arith, some, same)) in
      let i : p.0 ≡ q.0 = is_base.distinct p.0 q.0 (a, at a) (b, at b) p.1 q.1 same in
      let both : Some (a, at a) ≡ Some (b, at b) = sym p.1 ∙ ap (λ n. slice_get base.slots n) i ∙ q.1 in
      ap (λ (o : Option (Key × Slot)). key_in o) both
    where
      key_in : Option (Key × Slot) → Key
      key_in None = a
      key_in (Some e) = e.0

  -- a key without a version has no object
  never : (key : Key) → (at key).version ≡ 0 → (at key).object ≡ None
  unfolding at
  never key is = elim (there_or_never base.slots key) [
    | inl e ↦ ap (λ (x : Slot). x.object) e
    | inr p ↦ absurd (omega (arith, is, (is_base.versions p.0 (key, at key) p.1).0))
  ]

  all : Stamp → ℕ
  all stamp = times_in stamp base.slots

  one : Stamp → Key → ℕ
  one stamp key = times stamp (at key).stamps

  le : (stamp : Stamp) (key : Key) → one stamp key ≤ all stamp
  unfolding at all one
  le stamp key = one-le-all stamp base.slots key

  unplanned : (stamp : Stamp) (key : Key) → (at (key_of stamp)).version ≡ 0 → one stamp key ≡ 0
  unfolding at all one
  unplanned stamp key is = elim (cases_lt 0 (one stamp key)) [
    | inl some ↦ absurd (omega (arith, is, sound.planned stamp (omega (arith, some, le stamp key))))
    | inr none ↦ omega (arith, none)
  ]

  stands : (key : Key) (plan : PlanStatus) → is_plan_key key ≡ true → as_plan (at key).object ≡ Some plan → plan_at key (at key).object ≡ Some plan
  unfolding at
  stands key plan kind is = plan_at-is key (at key).object kind ∙ is

  step_at : (stamp : Stamp) (key : Key) (plan : PlanStatus) → as_plan (at (key_of stamp)).object ≡ Some plan → 0 < one stamp key → (s : Step) × (slice_get plan.steps stamp.step ≡ Some s) × (s.key ≡ key) × (stamp.plan ≡ plan.number)
  unfolding at all one
  step_at stamp key plan is some =
      let found = sound.at_step stamp plan (omega (arith, some, le stamp key)) (stands (key_of stamp) plan (is_plan_key-key_of stamp) is) in (
        found.0,
        found.1,
        ⊎_elim (λ same. same) (λ ne. absurd (omega (arith, two-le-all stamp base.slots found.0.key key ne, sound.once stamp, some, found.3))) (same_or_not found.0.key key),
        found.2,
      )

  fits : (key : Key) (plan : PlanStatus) (i : ℕ) (s : Step) → is_plan_key key ≡ true → as_plan (at key).object ≡ Some plan → slice_get plan.steps i ≡ Some s → StateFits s.state (step_stamp key plan i) s.key (at s.key)
  unfolding at all one
  fits key plan i s kind is there = by_state s.state (sound.states key plan i s (stands key plan kind is) there)
    where
      stamp : Stamp
      stamp = step_stamp key plan i

      named : key_of stamp ≡ key
      named = sym (sound.plans key plan (stands key plan kind is)).named

      none : times_in stamp base.slots ≡ 0 → times stamp (slot_in base.slots s.key).stamps ≡ 0
      none z = omega (arith, z, one-le-all stamp base.slots s.key)

      by_state : (st : StepState) → StepStands st stamp s.key base.slots → StateFits st stamp s.key (slot_in base.slots s.key)
      by_state Unknown z = none z
      by_state (Aimed v) z = (z.1, λ e. (none (z.2 e).0, (z.2 e).1))
      by_state Created z =
          let found = sound.at_step stamp plan (omega (arith, z)) (ap (λ k. plan_at k (slot_in base.slots k).object) named ∙ stands key plan kind is) in
          let same : found.0 ≡ s = Some-same _ _ _ found.1 there in
          omega (arith, z, one-le-all stamp base.slots s.key, found.3, ap (λ (x : Step). times stamp (slot_in base.slots x.key).stamps) same)
      by_state Present z = none z
      by_state Overtaken z = none z

  -- the plan that waits has only Unknown steps, so none of its stamps stands anywhere
  idle : (stamp : Stamp) (key : Key) → (plan : PlanStatus) → as_plan (at (key_of stamp)).object ≡ Some plan → is_early plan.phase ≡ true → one stamp key ≡ 0
  unfolding at all one install_key
  idle stamp key plan is early = elim (cases_lt 0 (one stamp key)) [
    | inl some ↦
        let found = step_at stamp key plan is some in
        let unknown : found.0.state ≡ Unknown = sound.early (key_of stamp) plan (stands (key_of stamp) plan (is_plan_key-key_of stamp) is) early stamp.step found.0 found.1 in
        let own : step_stamp (key_of stamp) plan stamp.step ≡ stamp = ap (λ n. let x : Stamp = record { namespace = stamp.namespace; plan = n; step = stamp.step } in x) (sym found.3) in
        let zero_all : StepStands Unknown (step_stamp (key_of stamp) plan stamp.step) found.0.key base.slots =
        subst (λ (x : StepState). StepStands x (step_stamp (key_of stamp) plan stamp.step) found.0.key base.slots) unknown
        (sound.states (key_of stamp) plan stamp.step found.0 (stands (key_of stamp) plan (is_plan_key-key_of stamp) is) found.1) in
        absurd (omega (arith, some, le stamp key, zero_all, ap (λ (x : Stamp). times_in x base.slots) own))
    | inr none ↦ omega (arith, none)
  ]

  pub start_sound : IsSoundHistory (Start base)
  unfolding at one slot state last_plan started
  start_sound = record {
    versions = numbers;
    apart = apart;
    there = λ key plan kind is. is;
    written = λ key is. ap as_plan (never key is);
    plans = λ key plan kind is. sound.plans key plan (stands key plan kind is);
    waits = λ key plan kind is. sound.waits key plan (stands key plan kind is);
    early = λ key plan kind is. sound.early key plan (stands key plan kind is);
    fresh = unplanned;
    at_step = λ stamp key plan is some. step_at stamp key plan is some;
    once = λ stamp key. omega (arith, le_all stamp key, sound.once stamp);
    states = fits;
    begun = λ key plan is installing. begun key plan is installing;
    waiting = λ key plan i s kind is unstarted there. ⊎_elim
        (λ z. absurd (let e : None ≡ Some plan = sym (ap as_plan (never key (eqb-true _ _ z))) ∙ is in cc))
        (λ waits. sound.early key plan (stands key plan kind is) (sym (early_of (slot_in base.slots key).object plan is) ∙ waits) i s there)
        (not_and _ _ unstarted);
    idle = λ stamp key unstarted. ⊎_elim
        (λ z. unplanned stamp key (eqb-true _ _ z))
        (λ waits. let w = waits_is (slot_in base.slots (key_of stamp)).object waits in idle stamp key w.0 w.1 w.2)
        (not_and _ _ unstarted);
  }
    where
      le_all : (stamp : Stamp) (key : Key) → times stamp (slot_in base.slots key).stamps ≤ times_in stamp base.slots
      le_all stamp key = one-le-all stamp base.slots key

      begun : (key : Key) (plan : PlanStatus) → as_plan (slot_in base.slots key).object ≡ Some plan → plan.phase ≡ phase.Installing → (not (eqb (slot_in base.slots key).version 0) && not (is_early_plan (slot_in base.slots key).object)) ≡ true
      begun key plan is installing =
          let late : is_early_plan (slot_in base.slots key).object ≡ false = early_of (slot_in base.slots key).object plan is ∙ ap is_early installing in
          and_from _ _ (ap not (ne_eqb (slot_in base.slots key).version 0 (λ z. let e : None ≡ Some plan = sym (ap as_plan (never key z)) ∙ is in absurd (cc)))) (ap not late)
