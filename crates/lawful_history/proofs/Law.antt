-- Each lawful history is sound, and goes on from each of its beginnings.
use Rattle.std.proofs.Common.{Bool, true, false, cond, ◌≢◌, ◌≡◌, ◌≤◌, ◌<◌, ⊎_elim, List, ℕ, Some, None, refl, sym, ap, ◌∙◌, arith, inl, inr, subst, ◌+◌}
use Rattle.std.proofs.lemmas.Bool.{cases_lt, or_left}
use Rattle.std.proofs.lemmas.Map.Keys.{IsDistinct-from_sorted}
use Rattle.std.proofs.lemmas.Map.Made.{IsDistinct-keys_filter}
use Rattle.std.specs.List.{slice_get}
use Rattle.std.specs.Map.{keys_of}
use Rattle.std.specs.Ordering.{eq_by_cmp}
use Rattle.cluster_objects.specs.Keys.{key_cmp, same_text}
use Rattle.cluster_objects.specs.Kinds.{as_plan, is_plan_key}
use Rattle.cluster_objects.specs.Stamps.{times, same_stamp, stamps_of}
use Rattle.cluster_history.specs.History.{History, Start, After, IsInOrder, base_of, state, slot, first_writes, carried}
use Rattle.cluster_history.specs.Views.{View, view, is_visible}
use Rattle.lawful_history.specs.Counting.{is_installer}
use Rattle.lawful_history.specs.Installing.{key_of, step_stamp, move_write, next_move, installer_writes}
use Rattle.lawful_history.specs.Lawful.{last_plan, started, PlanLater, IsAllowed, Aside, Removes, Approves, Creates, Installs}
use Rattle.lawful_history.specs.Sound.{IsLawful}
use Rattle.lawful_history.proofs.Invariant.{StateFits, IsSoundHistory, GoesOn}
use Rattle.cluster_objects.specs.declared.keys.Key.{Key}
use Rattle.cluster_history.specs.declared.slots.Slot.{Slot}
use Rattle.cluster_history.specs.declared.slots.Base.{Base}
use Rattle.cluster_objects.specs.declared.keys.Stamp.{Stamp}
use Rattle.cluster_objects.specs.declared.plans.Step.{Step}
use Rattle.cluster_objects.specs.declared.plans.StepState.{StepState}
use Rattle.cluster_objects.specs.declared.plans.StepState.TheVariants.{Unknown, Created, Overtaken}
use Rattle.cluster_objects.specs.declared.plans.PlanStatus.{PlanStatus}
use Rattle.cluster_objects.specs.declared.objects.Object.{Object}
use Rattle.cluster_objects.specs.declared.objects.Status.TheVariants as status
use Rattle.cluster_objects.specs.declared.objects.Write.{Write}
use Rattle.cluster_objects.proofs.Stamping.{same_stamp-true, same_stamp-refl, same_text-refl, times-none, times-same, times-other}
use Rattle.cluster_history.proofs.State.{state_sorted}
use Rattle.cluster_history.proofs.Sums.{at_distinct_place}
use Rattle.lawful_history.proofs.Allowing.{Effect, no_plans, new_plan, same_steps, move_class, bare-none, as_plan-status}
use Rattle.lawful_history.proofs.Begins.{start_sound}
use Rattle.lawful_history.proofs.Efforts.{effort-approved}
use Rattle.lawful_history.proofs.Landing.{Lands, sound-lands, changes-lands, steady-lands}
use Rattle.lawful_history.proofs.Later.{PlanLater-refl}
use Rattle.lawful_history.proofs.Moves.{slot_in-view, next_move_of, member_is_entry}
use Rattle.lawful_history.proofs.Older.{IsOlder, first_older, now, back}
use Rattle.lawful_history.proofs.Slots.{in_slot, carried-at, carried-somewhere}
use Rattle.lawful_history.proofs.Steps.{Some-same, sound-unstamped, steady-unstamped, goes_on}

-- each older history is sound, and this one goes on from it
abbrev pub Past : History → Type 0
Past h = (g : History) → IsOlder g h → IsSoundHistory g × GoesOn g h

-- older histories begin at the same base
base_older : {g h : History} → IsOlder g h → base_of g ≡ base_of h
base_older now = refl
base_older (back older) = base_older older

-- the plan that a member of an installer's list goes on with, as it stood at that length
pub record SeenEntry (g : History) (v : View) (w : Write) : Type 0 where
  pub key : Key
  pub object : Object
  pub plan : PlanStatus
  pub there : (slot g key).object ≡ Some object
  pub status : object.status ≡ status.Plan plan
  pub kind : is_plan_key key ≡ true
  pub namespace : key.namespace ≡ v.namespace
  pub write : move_write v key (slot g key).version object plan (next_move plan) ≡ Some w

pub seen_entry : (h : History) (w : Write) → IsInOrder (base_of h).slots → (namespace : List ℕ) (a i : ℕ) → slice_get (installer_writes (view h namespace a)) i ≡ Some w → SeenEntry (first_writes a h) (view h namespace a) w
seen_entry h w sorted namespace a i is =
    let g = first_writes a h in
    let v = view h namespace a in
    let member = member_is_entry v w i is in
    let entry = member.write in
    let visible : is_visible namespace member.key ≡ true = or_left _ _ (subst (λ ns. same_text member.key.namespace ns ≡ true) entry.namespace (same_text-refl member.key.namespace)) in
    let sorted_old : IsInOrder (base_of g).slots = subst (λ (b : Base). IsInOrder b.slots) (sym (base_older (first_older a h))) sorted in
    let distinct = IsDistinct-keys_filter (eq_by_cmp key_cmp) (λ e. is_visible namespace e.0) (state g) (IsDistinct-from_sorted key_cmp (keys_of (state g)) (state_sorted g sorted_old)) in
    let there : slot g member.key ≡ member.there = sym (slot_in-view h namespace a member.key visible) ∙ at_distinct_place v.slots distinct member.place (member.key, member.there) member.at in
    record {
      key = member.key;
      object = entry.object;
      plan = entry.plan;
      there = ap (λ (x : Slot). x.object) there ∙ entry.is_there;
      status = entry.status;
      kind = entry.kind;
      namespace = entry.namespace;
      write = subst (λ (x : Slot). move_write v member.key x.version entry.object entry.plan (next_move entry.plan) ≡ Some w) (sym there) entry.write;
    }

not_installer : (w : Write) → is_installer w.by ≡ false → (m n : ℕ) → m ≤ n → m + cond (is_installer w.by) 1 0 ≤ n
not_installer w by m n le = omega (arith, le, ap one by)
  where
    one : Bool → ℕ
    one b = cond b 1 0

-- every allowed write
pub effect : (is_valid : List ℕ → Bool) (h : History) (w : Write) → IsInOrder (base_of h).slots → Past h → IsAllowed is_valid h w → w.expect ≡ (slot h w.key).version → Effect h w
effect is_valid h w sorted past (Aside bare kind valid) expects =
    inl (bare, no_plans h w (past h now).0 (λ key e is_kind. absurd (let t : is_plan_key w.key ≡ true = ap is_plan_key e ∙ is_kind in cc)))
effect is_valid h w sorted past (Removes by none) expects = inl (ap stamps_of none, no_plans h w (past h now).0 (λ key e is_kind. (none, ap is_installer by)))
effect is_valid h w sorted past (Approves by object plan kind there st is) expects =
    let sound = (past h now).0 in
    let stands : as_plan (slot h w.key).object ≡ Some plan = ap as_plan there ∙ as_plan-status object plan st in
    let last : last_plan h w.key ≡ Some plan = sound.there w.key plan kind stands in
    inl (
      ap stamps_of is,
      same_steps h w sound plan (record plan { approved = true }) kind stands last (ap as_plan is) refl refl
          (record { number = refl; manual = refl; approved = λ e. refl; count = refl; steps = (PlanLater-refl plan).steps })
          (λ manual unapproved. absurd (cc))
          (sound.early w.key plan kind last)
          (not_installer w (ap is_installer by) _ _ (omega (arith, effort-approved h w.key plan))),
    )
effect is_valid h w sorted past (Creates by object plan kind fresh is st unstamped made new) expects =
    let sound = (past h now).0 in
    let unwritten : (slot h w.key).version ≡ 0 = sym expects ∙ fresh in
    let none : last_plan h w.key ≡ None = sound.written w.key unwritten in
    inl (
      ap stamps_of is ∙ bare-none object unstamped,
      new_plan h w sound plan (ap as_plan is ∙ as_plan-status object plan st) (record {
        plan = made;
        fits = λ i s at. subst (λ (x : StepState). StateFits x (step_stamp w.key plan i) s.key (slot h s.key)) (sym (new.unknown i s at))
            (sound.fresh (step_stamp w.key plan i) s.key (ap (λ k. (slot h k).version) (sym made.named) ∙ unwritten));
        first = λ nothing. (unwritten, ap is_installer by);
        waiting = λ unstarted i s at. new.unknown i s at;
        later = λ p₀ old. absurd (let e : None ≡ Some p₀ = sym none ∙ old in cc);
        waits = λ manual unapproved. (
          ⊎_elim (λ failed. inr failed.0) (λ other. ⊎_elim (λ waits. inl waits.0) (λ planning. absurd (let e = planning.1 in cc)) other) new.phase,
          new.unknown,
        );
        early = λ e. new.unknown;
        there = inl unwritten;
        overtakes = λ p₀ i s t old at at' over. absurd (let e : None ≡ Some p₀ = sym none ∙ old in cc);
        effort = λ p₀ old. absurd (let e : None ≡ Some p₀ = sym none ∙ old in cc);
      }),
    )
effect is_valid h w sorted past (Installs namespace a i low le is) expects =
    let g = first_writes a h in
    let old = past g (first_older a h) in
    let v = view h namespace a in
    let entry = seen_entry h w sorted namespace a i is in
    move_class h (past h now).0 g old.0 old.1 v (λ k s. slot_in-view h namespace a k s) entry.key entry.object entry.plan entry.kind entry.namespace
    entry.there entry.status (next_move entry.plan) (next_move_of entry.plan) w entry.write expects

goes_on-refl : (h : History) → GoesOn h h
goes_on-refl h = record {
  versions = λ key. omega arith;
  same = λ key e. refl;
  stamps = λ stamp key. omega arith;
  begun = λ key is. is;
  plans = λ key plan kind is. (plan, is, PlanLater-refl plan);
  gone = λ key kind some none. none;
  passed = λ key plan later i s t v kind last at aimed now at' over. absurd (let e : plan ≡ later = Some-same _ _ _ last now in let u : s ≡ t = Some-same _ _ _ at (ap (λ (q : PlanStatus). slice_get q.steps i) e ∙ at') in let x = ap (λ (y : Step). y.state) u in cc);
  stays = λ key plan later i s t v kind last at aimed past now at' is. refl;
}

-- what an effect does to soundness
grows : (h : History) (w : Write) → Past h → Effect h w → IsSoundHistory (After w h) × ((g : History) → GoesOn g h → GoesOn g (After w h))
grows h w past (inl e) = (sound-unstamped w h (past h now).0 e.0 e.1, λ g so_far. goes_on w h (past h now).0 e.1 (steady-unstamped w h (past h now).0 e.0 e.1) g so_far)
grows h w past (inr e) = (sound-lands w h (past h now).0 e, λ g so_far. goes_on w h (past h now).0 (changes-lands w h (past h now).0 e) (steady-lands w h (past h now).0 e) g so_far)

more : (h : History) (w : Write) → Past h → IsSoundHistory (After w h) × ((g : History) → GoesOn g h → GoesOn g (After w h)) → Past (After w h)
more h w past step g now = (step.0, goes_on-refl (After w h))
more h w past step g (back older) = let p = past g older in (p.0, step.1 g p.1)

start_past : (base : Base) → IsSoundHistory (Start base) → Past (Start base)
start_past base s g now = (s, goes_on-refl (Start base))

pub base_in_order : (is_valid : List ℕ → Bool) (h : History) → IsLawful is_valid h → IsInOrder (base_of h).slots
base_in_order is_valid (Start base) lawful = lawful.0.keys
base_in_order is_valid (After w h) lawful = base_in_order is_valid h lawful.2

pub lawful-past : (is_valid : List ℕ → Bool) (h : History) → IsLawful is_valid h → Past h
lawful-past is_valid (Start base) lawful = start_past base (start_sound is_valid base lawful.0 lawful.1)
lawful-past is_valid (After w h) lawful =
    let past = lawful-past is_valid h lawful.2 in
    more h w past (grows h w past (effect is_valid h w (base_in_order is_valid h lawful.2) past lawful.1 lawful.0))

-- the effect of the newest write
pub newest : (is_valid : List ℕ → Bool) (h : History) (w : Write) → IsLawful is_valid (After w h) → Effect h w
newest is_valid h w lawful = effect is_valid h w (base_in_order is_valid h lawful.2) (lawful-past is_valid h lawful.2) lawful.1 lawful.0

pub sound : (is_valid : List ℕ → Bool) (h : History) → IsLawful is_valid h → IsSoundHistory h
sound is_valid h lawful = (lawful-past is_valid h lawful h now).0

-- carried once at most
pub once : (is_valid : List ℕ → Bool) (h : History) (stamp : Stamp) → IsLawful is_valid h → carried stamp h ≤ 1
unfolding carried
once is_valid (Start base) stamp lawful = lawful.1.once stamp
once is_valid (After w h) stamp lawful = by_effect (newest is_valid h w lawful) (once is_valid h stamp lawful.2)
  where
    s : IsSoundHistory h
    s = sound is_valid h lawful.2

    by_stamp : (e : Lands h w) → carried stamp h ≤ 1 → (b : Bool) → same_stamp e.stamp stamp ≡ b → times stamp (stamps_of w.object) + carried stamp h ≤ 1
    by_stamp e le true is =
        let same : e.stamp ≡ stamp = same_stamp-true e.stamp stamp is in
        let none : (k : Key) → k ≢ w.key → in_slot e.stamp h k ≡ 0 = λ k ne. elim (cases_lt 0 (in_slot e.stamp h k)) [
          | inl some ↦ absurd (let x = s.at_step e.stamp k e.plan e.last some in let f = x.1 in let g = e.at in let t : x.0 ≡ e.step = cc in ne (sym x.2 ∙ ap (λ (y : Step). y.key) t ∙ e.key))
          | inr none_is ↦ omega arith
        ] in
        let zero_so_far : carried e.stamp h ≡ 0 = carried-at e.stamp w.key h (base_in_order is_valid h lawful.2) none ∙ e.absent in
        let one : times stamp (stamps_of w.object) ≡ 1 = subst (λ (x : Stamp). times x (stamps_of w.object) ≡ 1) same (ap (λ (xs : List Stamp). times e.stamp xs) e.carries ∙ times-same e.stamp) in
        omega (arith, one, subst (λ (x : Stamp). carried x h ≡ 0) same zero_so_far)
    by_stamp e le false is =
        let ne : stamp ≢ e.stamp = λ x. let t : same_stamp e.stamp stamp ≡ true = subst (λ (y : Stamp). same_stamp e.stamp y ≡ true) (sym x) (same_stamp-refl e.stamp) in cc in
        omega (arith, le, ap (λ (xs : List Stamp). times stamp xs) e.carries, times-other stamp e.stamp ne)

    by_effect : Effect h w → carried stamp h ≤ 1 → times stamp (stamps_of w.object) + carried stamp h ≤ 1
    by_effect (inl e) le = omega (arith, le, ap (λ (xs : List Stamp). times stamp xs) e.0, times-none stamp)
    by_effect (inr e) le = by_stamp e le (same_stamp e.stamp stamp) refl

-- a stamp of the newest plan stands at its step's key alone
pub carried-step : (h : History) (key : Key) (plan : PlanStatus) (i : ℕ) (t : Step) → IsInOrder (base_of h).slots → IsSoundHistory h → is_plan_key key ≡ true → last_plan h key ≡ Some plan → slice_get plan.steps i ≡ Some t → carried (step_stamp key plan i) h ≡ in_slot (step_stamp key plan i) h t.key
carried-step h key plan i t sorted s kind is at =
    let stamp = step_stamp key plan i in
    let last : last_plan h (key_of stamp) ≡ Some plan = ap (λ k. last_plan h k) (sym (s.plans key plan kind is).named) ∙ is in
    let none : (k : Key) → k ≢ t.key → in_slot stamp h k ≡ 0 = λ k ne. elim (cases_lt 0 (in_slot stamp h k)) [
      | inl some ↦ absurd (let x = s.at_step stamp k plan last some in let e = x.1 in let same : x.0 ≡ t = cc in ne (sym x.2 ∙ ap (λ (y : Step). y.key) same))
      | inr none_is ↦ omega arith
    ] in
    carried-at stamp t.key h sorted none

module _ (is_valid : List ℕ → Bool) (h : History) (lawful : IsLawful is_valid h) where
  pub fits : (key : Key) (plan : PlanStatus) (i : ℕ) (t : Step) (state : StepState) → is_plan_key key ≡ true → last_plan h key ≡ Some plan → slice_get plan.steps i ≡ Some t → t.state ≡ state
      → StateFits state (step_stamp key plan i) t.key (slot h t.key)
  fits key plan i t state kind is at e = subst (λ (x : StepState). StateFits x (step_stamp key plan i) t.key (slot h t.key)) e ((sound is_valid h lawful).states key plan i t kind is at)

  pub step_count : (key : Key) (plan : PlanStatus) (i : ℕ) (t : Step) → is_plan_key key ≡ true → last_plan h key ≡ Some plan → slice_get plan.steps i ≡ Some t → carried (step_stamp key plan i) h ≡ in_slot (step_stamp key plan i) h t.key
  step_count key plan i t kind is at = carried-step h key plan i t (base_in_order is_valid h lawful) (sound is_valid h lawful) kind is at

  -- exactly once where the step was marked Created
  pub created : (key : Key) (plan : PlanStatus) (i : ℕ) (t : Step) → is_plan_key key ≡ true → last_plan h key ≡ Some plan → slice_get plan.steps i ≡ Some t → t.state ≡ Created → carried (step_stamp key plan i) h ≡ 1
  created key plan i t kind is at made = step_count key plan i t kind is at ∙ fits key plan i t Created kind is at made

  -- not at all where it was overtaken
  pub overtaken : (key : Key) (plan : PlanStatus) (i : ℕ) (t : Step) → is_plan_key key ≡ true → last_plan h key ≡ Some plan → slice_get plan.steps i ≡ Some t → t.state ≡ Overtaken → carried (step_stamp key plan i) h ≡ 0
  overtaken key plan i t kind is at over = step_count key plan i t kind is at ∙ fits key plan i t Overtaken kind is at over

  -- never where the plan at the stamp's key was never in Installing
  pub unstarted : (stamp : Stamp) → started h (key_of stamp) ≡ false → carried stamp h ≡ 0
  unstarted stamp never =
      let s = sound is_valid h lawful in
      carried-at stamp (key_of stamp) h (base_in_order is_valid h lawful) (λ k ne. s.idle stamp k never) ∙ s.idle stamp (key_of stamp) never

  -- never where the newest plan is manual and not approved
  pub unapproved : (key : Key) (plan : PlanStatus) (i : ℕ) → is_plan_key key ≡ true → last_plan h key ≡ Some plan → plan.manual ≡ true → plan.approved ≡ false → carried (step_stamp key plan i) h ≡ 0
  unapproved key plan i kind is manual bare = elim (cases_lt 0 (carried (step_stamp key plan i) h)) [
    | inl some ↦
        let s = sound is_valid h lawful in
        let at = carried-somewhere (step_stamp key plan i) h (base_in_order is_valid h lawful) some in
        let last : last_plan h (key_of (step_stamp key plan i)) ≡ Some plan = ap (λ k. last_plan h k) (sym (s.plans key plan kind is).named) ∙ is in
        let found = s.at_step (step_stamp key plan i) at.0 plan last at.1 in
        let zero_there = fits key plan i found.0 Unknown kind is found.1 ((s.waits key plan kind is manual bare).1 i found.0 found.1) in
        absurd (omega (arith, at.1, zero_there, ap (λ k. in_slot (step_stamp key plan i) h k) found.2))
    | inr none ↦ omega (arith, none)
  ]

  -- a plan that once was is still the newest, but for what a plan may change
  pub goes_on_from : (a : ℕ) (key : Key) (plan : PlanStatus) → is_plan_key key ≡ true → last_plan (first_writes a h) key ≡ Some plan
      → (later : PlanStatus) × (last_plan h key ≡ Some later) × PlanLater plan later
  goes_on_from a key plan kind is = (lawful-past is_valid h lawful (first_writes a h) (first_older a h)).1.plans key plan kind is

  -- a plan that was removed stays removed
  pub stays_gone : (a : ℕ) (key : Key) → is_plan_key key ≡ true → 0 < (slot (first_writes a h) key).version → (slot (first_writes a h) key).object ≡ None → (slot h key).object ≡ None
  stays_gone a key kind some none = (lawful-past is_valid h lawful (first_writes a h) (first_older a h)).1.gone key kind some none
