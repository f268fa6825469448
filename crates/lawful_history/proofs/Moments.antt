-- What the law says of a plan at any moment, of a plan's number, and of histories that begin with nothing.
use Rattle.std.proofs.Common.{Bool, true, false, cond, ◌≡◌, ◌⊎◌, ⊎_elim, List, [], ℕ, zero, suc, Option, Some, None, refl, sym, ap, ◌∙◌, arith, inl, inr, subst}
use Rattle.std.specs.List.{slice_get}
use Rattle.std.specs.List.Sorted.{IsStrictlySortedBy}
use Rattle.std.specs.Option.{option_or}
use Rattle.cluster_objects.specs.Kinds.{is_catalog_key, is_plan_key, as_plan}
use Rattle.cluster_history.specs.History.{History, Start, After, empty, earlier, slot, first_writes, carried, times_in}
use Rattle.lawful_history.specs.Installing.{install_key, step_stamp}
use Rattle.lawful_history.specs.Lawful.{last_plan, StateLater, PlanLater, IsPlan, IsNeutral, IsAllowed, Aside}
use Rattle.lawful_history.specs.Sound.{IsSoundBase, IsLawful}
use Rattle.cluster_objects.specs.declared.keys.Key.{Key}
use Rattle.cluster_objects.specs.declared.keys.Stamp.{Stamp}
use Rattle.cluster_objects.specs.declared.objects.Write.{Write}
use Rattle.cluster_objects.specs.declared.plans.Step.{Step}
use Rattle.cluster_objects.specs.declared.plans.StepState.{StepState}
use Rattle.cluster_objects.specs.declared.plans.StepState.TheVariants.{Created, Overtaken}
use Rattle.cluster_objects.specs.declared.plans.PlanStatus.{PlanStatus}
use Rattle.lawful_history.proofs.Allowing.{Effect}
use Rattle.lawful_history.proofs.Catalogs.{elsewhere}
use Rattle.lawful_history.proofs.Law.{lawful-past, newest, sound, created, overtaken, goes_on_from}
use Rattle.lawful_history.proofs.Older.{first_older}
use Rattle.lawful_history.proofs.Slots.{last_plan-written}
use Rattle.lawful_history.proofs.Steps.{Leaves, Plans, Some-same}

-- a beginning of a lawful history is lawful
earlier_lawful : (is_valid : List ℕ → Bool) (n : ℕ) (h : History) → IsLawful is_valid h → IsLawful is_valid (earlier n h)
earlier_lawful is_valid zero h lawful = lawful
earlier_lawful is_valid (suc n) (Start base) lawful = lawful
earlier_lawful is_valid (suc n) (After w h) lawful = earlier_lawful is_valid n h lawful.2

pub beginning : (is_valid : List ℕ → Bool) (a : ℕ) (h : History) → IsLawful is_valid h → IsLawful is_valid (first_writes a h)
beginning is_valid a h lawful = earlier_lawful is_valid _ h lawful

stays_created : (old new : StepState) → old ≡ Created → StateLater old new → new ≡ Created
stays_created old new is later = subst (λ (x : StepState). StateLater x new) is later

stays_overtaken : (old new : StepState) → old ≡ Overtaken → StateLater old new → new ≡ Overtaken
stays_overtaken old new is later = subst (λ (x : StepState). StateLater x new) is later

module _ (is_valid : List ℕ → Bool) (h : History) (lawful : IsLawful is_valid h) where
  same_stamp_later : (key : Key) (plan later : PlanStatus) (i : ℕ) → PlanLater plan later → step_stamp key plan i ≡ step_stamp key later i
  same_stamp_later key plan later i on = ap (λ n. let x : Stamp = record { namespace = key.namespace; plan = n; step = i } in x) (sym on.number)

  pub created_ever : (a : ℕ) (key : Key) (plan : PlanStatus) (i : ℕ) (s : Step) → is_plan_key key ≡ true → last_plan (first_writes a h) key ≡ Some plan → slice_get plan.steps i ≡ Some s → s.state ≡ Created → carried (step_stamp key plan i) h ≡ 1
  created_ever a key plan i s kind was at is =
      let on = goes_on_from is_valid h lawful a key plan kind was in
      let t = on.2.steps i s at in
      ap (λ (x : Stamp). carried x h) (same_stamp_later key plan on.0 i on.2) ∙ created is_valid h lawful key on.0 i t.0 kind on.1 t.1 (stays_created s.state t.0.state is t.2.state)

  pub overtaken_ever : (a : ℕ) (key : Key) (plan : PlanStatus) (i : ℕ) (s : Step) → is_plan_key key ≡ true → last_plan (first_writes a h) key ≡ Some plan → slice_get plan.steps i ≡ Some s → s.state ≡ Overtaken → carried (step_stamp key plan i) h ≡ 0
  overtaken_ever a key plan i s kind was at is =
      let on = goes_on_from is_valid h lawful a key plan kind was in
      let t = on.2.steps i s at in
      ap (λ (x : Stamp). carried x h) (same_stamp_later key plan on.0 i on.2) ∙ overtaken is_valid h lawful key on.0 i t.0 kind on.1 t.1 (stays_overtaken s.state t.0.state is t.2.state)

  pub named_ever : (a : ℕ) (key : Key) (plan : PlanStatus) → is_plan_key key ≡ true → last_plan (first_writes a h) key ≡ Some plan → IsPlan key plan
  named_ever a key plan kind was = (lawful-past is_valid h lawful (first_writes a h) (first_older a h)).0.plans key plan kind was

  -- plans of one namespace and number are one plan
  pub one_number : (a b : ℕ) (key other : Key) (plan q : PlanStatus) → is_plan_key key ≡ true → is_plan_key other ≡ true → last_plan (first_writes a h) key ≡ Some plan → last_plan (first_writes b h) other ≡ Some q
      → key.namespace ≡ other.namespace → plan.number ≡ q.number → (key ≡ other) × (later : PlanStatus) × (last_plan h key ≡ Some later) × PlanLater plan later × PlanLater q later
  one_number a b key other plan q kind kind' was was' namespace number =
      let same : key ≡ other =
      (named_ever a key plan kind was).named ∙ ap (λ ns. install_key ns plan.number) namespace ∙ ap (λ n. install_key other.namespace n) number ∙ sym (named_ever b other q kind' was').named in
      let on = goes_on_from is_valid h lawful a key plan kind was in
      let on' = goes_on_from is_valid h lawful b other q kind' was' in
      let one : on'.0 ≡ on.0 = Some-same _ _ _ on'.1 (ap (λ k. last_plan h k) (sym same) ∙ on.1) in
      (same, on.0, on.1, on.2, subst (λ (r : PlanStatus). PlanLater q r) one on'.2)

-- a write of a plan is the first of its key, or goes on with the plan that is there
pub plan_written : (is_valid : List ℕ → Bool) (h : History) (w : Write) (plan : PlanStatus) → IsLawful is_valid (After w h) → is_plan_key w.key ≡ true → as_plan w.object ≡ Some plan
    → IsPlan w.key plan × (((slot h w.key).version ≡ 0) ⊎ ((old : PlanStatus) × (as_plan (slot h w.key).object ≡ Some old) × PlanLater old plan))
plan_written is_valid h w plan lawful kind is = by_effect (newest is_valid h w lawful)
  where
    last : last_plan (After w h) w.key ≡ Some plan
    last = last_plan-written w h w.key refl ∙ ap (λ o. option_or o (last_plan h w.key)) is

    by_change : Leaves h w w.key ⊎ Plans h w w.key → IsPlan w.key plan × (((slot h w.key).version ≡ 0) ⊎ ((old : PlanStatus) × (as_plan (slot h w.key).object ≡ Some old) × PlanLater old plan))
    by_change (inl leaves) = absurd (let e : None ≡ Some plan = sym (ap as_plan (leaves.object refl)) ∙ is in cc)
    by_change (inr new) =
        let e : new.0 ≡ plan = Some-same _ _ _ new.2 last in (
          subst (λ (q : PlanStatus). IsPlan w.key q) e new.3.plan,
          ⊎_elim
              (λ z. inl z)
              (λ there. inr (there.0, there.1, subst (λ (q : PlanStatus). PlanLater there.0 q) e (new.3.later there.0 ((sound is_valid h lawful.2).there w.key there.0 kind there.1))))
              new.3.there,
        )

    by_effect : Effect h w → IsPlan w.key plan × (((slot h w.key).version ≡ 0) ⊎ ((old : PlanStatus) × (as_plan (slot h w.key).object ≡ Some old) × PlanLater old plan))
    by_effect (inl e) = by_change (e.1 w.key kind)
    by_effect (inr lands) = absurd (let e = lands.no_plan in cc)

pub neutral_allowed : (is_valid : List ℕ → Bool) (h : History) (w : Write) → IsNeutral h w → IsAllowed is_valid h w
neutral_allowed is_valid h w n = Aside n.bare n.plan (elsewhere is_valid w.key w.object n.catalog)

nothing : {A : Type 0} (b : Bool) (x : A) → cond {A = Option A} b None None ≡ Some x → ⊥
nothing true x is = cc
nothing false x is = cc

pub empty_sound : (is_valid : List ℕ → Bool) → IsSoundBase is_valid empty
unfolding IsStrictlySortedBy
empty_sound is_valid = (
  record {
    length = omega arith;
    keys = tt;
    versions = λ i e at. absurd (cc);
    distinct = λ i j d e at at' same. absurd (cc);
  },
  record {
    once = λ stamp. omega (arith, none stamp);
    planned = λ stamp some. absurd (omega (arith, some, none stamp));
    at_step = λ stamp plan some is. absurd (omega (arith, some, none stamp));
    plans = λ key plan is. absurd (nothing (is_plan_key key) plan is);
    waits = λ key plan is. absurd (nothing (is_plan_key key) plan is);
    early = λ key plan is. absurd (nothing (is_plan_key key) plan is);
    states = λ key plan i s is at. absurd (nothing (is_plan_key key) plan is);
    catalogs = λ key c is. absurd (nothing (is_catalog_key key) c is);
  },
)
  where
    none : (stamp : Stamp) → times_in stamp [] ≡ 0
    none stamp = refl
