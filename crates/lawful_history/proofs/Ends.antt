-- The state after a lawful history is one that a history may begin with.
use Rattle.std.proofs.Common.{Bool, true, false, cond, ◌≡◌, ◌≤◌, ◌<◌, ◌^◌, ◌+◌, List, [], ◌∷◌, ℕ, zero, suc, Option, Some, None, refl, sym, ap, ◌∙◌, arith, inl, inr}
use Rattle.std.proofs.lemmas.Bool.{cases_lt}
use Rattle.std.specs.List.{slice_get}
use Rattle.std.specs.BTreeMap.{insert_entry}
use Rattle.std.specs.Ordering.{match_ordering}
use Rattle.std.specs.declared.cmp.Ordering.{Ordering}
use Rattle.std.specs.declared.cmp.Ordering.TheVariants.{Equal, Less, Greater}
use Rattle.cluster_objects.specs.Keys.{key_cmp}
use Rattle.cluster_objects.specs.Kinds.{is_plan_key, as_plan, plan_at}
use Rattle.cluster_objects.specs.Stamps.{times}
use Rattle.cluster_history.specs.History.{History, Start, After, Slots, IsInOrder, IsBase, base_of, position, state, slot, slot_in, never_written, after_write, times_in, carried}
use Rattle.lawful_history.specs.Installing.{key_of, step_stamp}
use Rattle.lawful_history.specs.Lawful.{last_plan}
use Rattle.lawful_history.specs.Sound.{StepStands, IsSound, IsLawful}
use Rattle.lawful_history.proofs.Invariant.{StateFits, IsSoundHistory}
use Rattle.cluster_objects.specs.declared.keys.Key.{Key}
use Rattle.cluster_objects.specs.declared.keys.Stamp.{Stamp}
use Rattle.cluster_objects.specs.declared.objects.Object.{Object}
use Rattle.cluster_objects.specs.declared.plans.Step.{Step}
use Rattle.cluster_objects.specs.declared.plans.StepState.{StepState}
use Rattle.cluster_objects.specs.declared.plans.StepState.TheVariants.{Unknown, Aimed, Created, Present, Overtaken}
use Rattle.cluster_objects.specs.declared.plans.PlanStatus.{PlanStatus}
use Rattle.cluster_history.specs.declared.slots.Slot.{Slot}
use Rattle.cluster_history.proofs.State.{state_sorted}
use Rattle.cluster_history.proofs.Sums.{at_place, somewhere, carried-slots, slot-gone, in_order-tail}
use Rattle.lawful_history.proofs.Catalogs.{catalogs}
use Rattle.lawful_history.proofs.Law.{base_in_order, sound, once, step_count, fits}

-- a plan that counts as one stands at a key of plans
stands_at : (key : Key) (o : Option Object) (plan : PlanStatus) → plan_at key o ≡ Some plan → (is_plan_key key ≡ true) × (as_plan o ≡ Some plan)
stands_at key o plan is = by_test (is_plan_key key) refl is
  where
    by_test : (b : Bool) → is_plan_key key ≡ b → cond b (as_plan o) None ≡ Some plan → (is_plan_key key ≡ true) × (as_plan o ≡ Some plan)
    by_test true e f = (e, f)
    by_test false e f = absurd (cc)

module _ (is_valid : List ℕ → Bool) (h : History) (lawful : IsLawful is_valid h) where
  s : IsSoundHistory h
  s = sound is_valid h lawful

  sorted : IsInOrder (base_of h).slots
  sorted = base_in_order is_valid h lawful

  count : (stamp : Stamp) → times_in stamp (state h) ≡ carried stamp h
  count stamp = sym (carried-slots stamp h sorted)

  newest : (key : Key) (plan : PlanStatus) → plan_at key (slot_in (state h) key).object ≡ Some plan → (is_plan_key key ≡ true) × (last_plan h key ≡ Some plan)
  unfolding s slot
  newest key plan is = let both = stands_at key (slot_in (state h) key).object plan is in (both.0, s.there key plan both.0 both.1)

  planned : (stamp : Stamp) → 0 < times_in stamp (state h) → 0 < (slot_in (state h) (key_of stamp)).version
  unfolding s slot
  planned stamp some = elim (cases_lt 0 (slot_in (state h) (key_of stamp)).version) [
    | inl lt ↦ lt
    | inr none ↦ absurd (let at = somewhere stamp (state h) (state_sorted h sorted) some in omega (arith, at.1, s.fresh stamp at.0 (let z : (slot_in (state h) (key_of stamp)).version ≡ 0 = omega (arith, none) in z)))
  ]

  at_step : (stamp : Stamp) (plan : PlanStatus) → 0 < times_in stamp (state h) → plan_at (key_of stamp) (slot_in (state h) (key_of stamp)).object ≡ Some plan
      → (t : Step) × (slice_get plan.steps stamp.step ≡ Some t) × (stamp.plan ≡ plan.number) × (0 < times stamp (slot_in (state h) t.key).stamps)
  unfolding s slot
  at_step stamp plan some is =
      let at = somewhere stamp (state h) (state_sorted h sorted) some in
      let found = s.at_step stamp at.0 plan (newest (key_of stamp) plan is).1 at.1 in
      (found.0, found.1, found.3, omega (arith, at.1, ap (λ k. times stamp (slot_in (state h) k).stamps) found.2))

  states : (key : Key) (plan : PlanStatus) (i : ℕ) (t : Step) → plan_at key (slot_in (state h) key).object ≡ Some plan → slice_get plan.steps i ≡ Some t → StepStands t.state (step_stamp key plan i) t.key (state h)
  unfolding slot
  states key plan i t is at = by_state t.state (fits is_valid h lawful key plan i t t.state (newest key plan is).0 (newest key plan is).1 at refl)
    where
      all : times_in (step_stamp key plan i) (state h) ≡ times (step_stamp key plan i) (slot_in (state h) t.key).stamps
      all = count (step_stamp key plan i) ∙ step_count is_valid h lawful key plan i t (newest key plan is).0 (newest key plan is).1 at

      by_state : (x : StepState) → StateFits x (step_stamp key plan i) t.key (slot_in (state h) t.key) → StepStands x (step_stamp key plan i) t.key (state h)
      by_state Unknown z = all ∙ z
      by_state (Aimed v) z = (omega (arith, count (step_stamp key plan i), once is_valid h (step_stamp key plan i) lawful), z.0, λ e. (all ∙ (z.1 e).0, (z.1 e).1))
      by_state Created z = all ∙ z
      by_state Present z = all ∙ z
      by_state Overtaken z = all ∙ z

  pub state_sound : IsSound is_valid (state h)
  unfolding s slot
  state_sound = record {
    once = λ stamp. omega (arith, count stamp, once is_valid h stamp lawful);
    planned = planned;
    at_step = at_step;
    plans = λ key plan is. s.plans key plan (newest key plan is).0 (newest key plan is).1;
    waits = λ key plan is. s.waits key plan (newest key plan is).0 (newest key plan is).1;
    early = λ key plan is. s.early key plan (newest key plan is).0 (newest key plan is).1;
    states = states;
    catalogs = λ key. catalogs is_valid h lawful key;
  }

-- each slot that is listed has a version
Each : Slots → Type 0
Each [] = Unit {0}
Each (e ∷ es) = (0 < e.1.version) × Each es

each-places : (es : Slots) → ((i : ℕ) (e : Key × Slot) → slice_get es i ≡ Some e → 0 < e.1.version) → Each es
unfolding Each
each-places [] f = tt
each-places (e ∷ es) f = (f zero e refl, each-places es (λ i d at. f (suc i) d at))

each-at : (es : Slots) → Each es → (i : ℕ) (e : Key × Slot) → slice_get es i ≡ Some e → 0 < e.1.version
unfolding Each
each-at [] f i e at = absurd (cc)
each-at (x ∷ es) f zero e at = let same : x ≡ e = cc in omega (arith, f.0, ap (λ (y : Key × Slot). y.1.version) same)
each-at (x ∷ es) f (suc i) e at = each-at es f.1 i e at

each-insert : (es : Slots) (k : Key) (v : Slot) → Each es → 0 < v.version → Each (insert_entry key_cmp es k v)
unfolding Each
each-insert [] k v f new = (new, tt)
each-insert (e ∷ es) k v f new = by_order (key_cmp k e.0) (each-insert es k v f.1 new)
  where
    by_order : (r : Ordering) → Each (insert_entry key_cmp es k v) → Each (match_ordering r ((k, v) ∷ e ∷ es) ((e.0, v) ∷ es) (e ∷ insert_entry key_cmp es k v))
    by_order Less rest = (new, f)
    by_order Equal rest = (new, f.1)
    by_order Greater rest = (f.0, rest)

each-state : (is_valid : List ℕ → Bool) (h : History) → IsLawful is_valid h → Each (state h)
unfolding state
each-state is_valid (Start base) lawful = each-places base.slots (λ i e at. (lawful.0.versions i e at).0)
each-state is_valid (After w h) lawful = each-insert (state h) w.key (after_write (slot_in (state h) w.key) (position h + 1) w) (each-state is_valid h lawful.2) (omega arith)

-- a key stands at one place
one_place : (es : Slots) → IsInOrder es → (i j : ℕ) (d e : Key × Slot) → slice_get es i ≡ Some d → slice_get es j ≡ Some e → 0 < d.1.version → 0 < e.1.version → d.0 ≡ e.0 → i ≡ j
one_place [] o i j d e at at' p q same = absurd (cc)
one_place (x ∷ es) o zero zero d e at at' p q same = refl
one_place (x ∷ es) o zero (suc j) d e at at' p q same =
    let first : x ≡ d = cc in
    let key : x.0 ≡ e.0 = ap (λ (y : Key × Slot). y.0) first ∙ same in
    let gone : e.1 ≡ never_written = sym (at_place es (in_order-tail x es o) j e at') ∙ ap (λ k. slot_in es k) (sym key) ∙ slot-gone x es o in
    absurd (omega (arith, q, ap (λ (y : Slot). y.version) gone))
one_place (x ∷ es) o (suc i) zero d e at at' p q same =
    let first : x ≡ e = cc in
    let key : x.0 ≡ d.0 = ap (λ (y : Key × Slot). y.0) first ∙ sym same in
    let gone : d.1 ≡ never_written = sym (at_place es (in_order-tail x es o) i d at) ∙ ap (λ k. slot_in es k) (sym key) ∙ slot-gone x es o in
    absurd (omega (arith, p, ap (λ (y : Slot). y.version) gone))
one_place (x ∷ es) o (suc i) (suc j) d e at at' p q same = ap suc (one_place es (in_order-tail x es o) i j d e at at' p q same)

pub state_base : (is_valid : List ℕ → Bool) (h : History) → IsLawful is_valid h → position h ≤ 2 ^ 62 → IsBase (record { length = position h; slots = state h })
unfolding slot
state_base is_valid h lawful bound = record {
  length = bound;
  keys = order;
  versions = λ i e at. (each-at (state h) each i e at, omega (arith, ap (λ (x : Slot). x.version) (at_place (state h) order i e at), s.versions e.0));
  distinct = λ i j d e at at' same.
      let p = each-at (state h) each i d at in
      let q = each-at (state h) each j e at' in
      let dv : (slot_in (state h) d.0).version ≡ d.1.version = ap (λ (x : Slot). x.version) (at_place (state h) order i d at) in
      let ev : (slot_in (state h) e.0).version ≡ e.1.version = ap (λ (x : Slot). x.version) (at_place (state h) order j e at') in
      one_place (state h) order i j d e at at' p q (s.apart d.0 e.0 (dv ∙ same ∙ sym ev) (omega (arith, p, dv)));
}
  where
    order : IsInOrder (state h)
    order = state_sorted h (base_in_order is_valid h lawful)

    each : Each (state h)
    each = each-state is_valid h lawful

    s : IsSoundHistory h
    s = sound is_valid h lawful
