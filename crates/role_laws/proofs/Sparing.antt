-- No step of a plan is at the key of a lease: not when the plan is made, and not where the step may still be written.
use Rattle.std.proofs.Common.{◌≡◌, ◌||◌, inl, inr, Bool, true, false, not, List, [], ◌∷◌, ◌++◌, map, ℕ, Option, Some, None, Result, Ok, Err, if◌then◌else◌, slice_get, refl, sym, ap, ◌∙◌, subst}
use Rattle.std.specs.List.{AllByRecursion, flat_map}
use Rattle.std.specs.Option.{option_or}
use Rattle.cluster_objects.specs.Kinds.{as_plan, is_catalog_key, is_claims_key, is_lease_key, is_plan_key, is_resolution_key}
use Rattle.cluster_objects.specs.declared.keys.Key.{Key}
use Rattle.cluster_objects.specs.Places.{resolution_key}
use Rattle.cluster_objects.specs.declared.objects.Object.{Object}
use Rattle.cluster_objects.specs.declared.objects.Write.{Write}
use Rattle.cluster_objects.specs.declared.objects.Writer.TheVariants as writer
use Rattle.cluster_objects.specs.declared.plans.PlanFault.{PlanFault}
use Rattle.cluster_objects.specs.declared.plans.PlanStatus.{PlanStatus}
use Rattle.cluster_objects.specs.declared.plans.Step.{Step}
use Rattle.cluster_objects.specs.declared.plans.StepState.{StepState}
use Rattle.cluster_objects.specs.declared.plans.StepState.TheVariants.{Unknown, Aimed, Created, Present, Overtaken}
use Rattle.cluster_objects.specs.declared.resolutions.ResolutionStatus.{ResolutionStatus}
use Rattle.cluster_objects.specs.declared.resolutions.Taken.{Taken}
use Rattle.cluster_objects.specs.declared.statuses.Made.{Made}
use Rattle.cluster_history.specs.History.{After, History, Start, slot_in}
use Rattle.cluster_history.specs.Views.{View}
use Rattle.cluster_history.specs.declared.slots.Base.{Base}
use Rattle.object_bodies.specs.Bodies.{plan_object}
use Rattle.object_bodies.specs.Heads.{is_forbidden, is_setting}
use Rattle.object_bodies.specs.Laws.{AreMadeNew}
use Rattle.object_bodies.specs.declared.faults.ObjectFault.{ObjectFault}
use Rattle.lawful_history.specs.Lawful.{last_plan}
use Rattle.lawful_history.specs.Sound.{IsLawful}
use Rattle.lawful_history.proofs.Moves.{with_step_cases}
use Rattle.lawful_history.proofs.Slots.{last_plan-written}
use Rattle.history_laws.specs.Edges.{BecomesApproved, MovesPhase, MovesStep, PlanEdge, StateEdge, Stays}
use Rattle.history_laws.proofs.Planning.{edge, first_plan}
use Rattle.view_basis.specs.Basis.{subscriptions}
use Rattle.view_basis.specs.Visible.{visible_catalogs}
use Rattle.upgrade_graph.specs.Sorting.{sorted}
use Rattle.install_plan.specs.Plans.{added_steps, bundled, first_ones, is_before, is_same_step, manifest_steps, new_plan, of_manifest, of_plan, plan_of, same_key_fault, steps_for, steps_in_order, taken_by, unasked, with_steps}
use Rattle.install_plan.specs.Steps.{Bundled, bad_manifest, is_stranger, made_for, manifest_step, no_manifest, read, step_of, steps_of}
use Rattle.install_plan.specs.Subscribing.{Subscriptions, is_manual, new_subscription}
use Rattle.install_plan.proofs.Gathering.{unless_ok}
use Rattle.install_plan.proofs.Members.{all_append, all_at, all_each, all_filter, all_flat, all_map, all_sorted, all_there}
use Rattle.controller_rules.specs.Lawful.{IsSoundByRoles, is_open}
use Rattle.controller_rules.specs.Resolving.{Decides, IsResolversWrite, Plans, current, plan_made, plan_or_failed, resolution_object}
use Rattle.lawful_events.proofs.Chains.{none_is_some, some_is}
use Rattle.lawful_roles.specs.Roles.{IsKept}
use Rattle.role_laws.proofs.Kept.{By, OfGrant, OfInstaller, OfPhases, OfResolver, OfUser, other_writer, who_had}
use Rattle.role_laws.proofs.Separate.{it_counts}

-- ---- a plan that is made

abbrev SparesLeases : Step → Type 0
SparesLeases step = is_lease_key step.key ≡ false

first_false : (a b : Bool) → (a || b) ≡ false → a ≡ false
first_false false b e = refl
first_false true b e = cc e

second_false : (a b : Bool) → (a || b) ≡ false → b ≡ false
second_false false b e = e
second_false true b e = cc e

-- what is written for a resolution is no plan
no_plan_put : (v : View) (found : Option ResolutionStatus) (there : Option Object) (new : ResolutionStatus)
    → as_plan (Some (resolution_object v found there new)) ≡ None
no_plan_put v None there new = refl
no_plan_put v (Some old) None new = refl
no_plan_put v (Some old) (Some object) new = refl

module _ (law : (namespace body : List ℕ) → AreMadeNew namespace body) where
  manifest_spares : (namespace : List ℕ) (taken : Taken) (body : List ℕ) (step : Step) → manifest_step namespace taken body ≡ Some step → SparesLeases step
  manifest_spares namespace taken body step e = by_read (plan_object namespace body) refl e
    where
      spares : (found : Key × Made) → plan_object namespace body ≡ Ok found → is_lease_key found.0 ≡ false
      spares found is =
          second_false (is_plan_key found.0 || is_catalog_key found.0 || is_resolution_key found.0 || is_claims_key found.0) (is_lease_key found.0)
          (first_false (is_forbidden found.0) (is_setting found.0) (law namespace body found is).0)

      by_stranger : (found : Key × Made) → plan_object namespace body ≡ Ok found → (b : Bool)
          → (if b then None else Some (record { key = found.0; body = body; made = made_for taken found.1; state = Unknown })) ≡ Some step → SparesLeases step
      by_stranger found is true e = absurd (none_is_some step e)
      by_stranger found is false e = subst SparesLeases (some_is _ step e) (spares found is)

      by_read : (read : Result (Key × Made) ObjectFault) → plan_object namespace body ≡ read → step_of taken body read ≡ Some step → SparesLeases step
      by_read (Err fault) is e = absurd (none_is_some step e)
      by_read (Ok found) is e = by_stranger found is (is_stranger taken found.0) e

  ones_spare : (steps : List Step) → AllByRecursion SparesLeases steps → AllByRecursion SparesLeases (first_ones steps)
  ones_spare [] all = tt
  ones_spare (step ∷ steps) all = (all.0, all_filter SparesLeases (λ other. not (is_same_step step other)) (first_ones steps) (ones_spare steps all.1))

  -- in whatever order the steps of manifests and those that are added come
  sorted_spare : {T : Type 0} (of_one : Step → T) (of_taken : Taken → T) (before : T → T → Bool) (step : T → Step)
      → ((s : Step) → SparesLeases s → SparesLeases (step (of_one s))) → ((one : Taken) → SparesLeases (step (of_taken one)))
      → (steps : List Step) (taken : List Taken) → AllByRecursion SparesLeases steps
      → AllByRecursion SparesLeases (first_ones (map step (sorted before (map of_one steps ++ map of_taken taken))))
  sorted_spare {T} of_one of_taken before step one_spares taken_spares steps taken all =
      let first = all_map SparesLeases (λ (one : T). SparesLeases (step one)) of_one one_spares steps all in
      let added = all_map (λ (one : Taken). Unit {0}) (λ (one : T). SparesLeases (step one)) of_taken (λ one u. taken_spares one) taken
      (all_each (λ (one : Taken). Unit {0}) (λ one. tt) taken) in
      let both = all_append (λ (one : T). SparesLeases (step one)) (map of_one steps) (map of_taken taken) first added in
      let turned = map of_one steps ++ map of_taken taken in
      let ordered = all_sorted (λ (one : T). SparesLeases (step one)) before turned both in
      ones_spare (map step (sorted before turned))
      (all_map (λ (one : T). SparesLeases (step one)) SparesLeases step (λ one spares. spares) (sorted before turned) ordered)

  steps_spare : (namespace : List ℕ) (all : List Bundled) (subscribed : Subscriptions) (manual : Bool) (taken : List Taken)
      → AllByRecursion SparesLeases (steps_in_order (manifest_steps namespace all ++ added_steps namespace subscribed manual taken))
  steps_spare namespace all subscribed manual taken =
      let each = λ (bundled : Bundled).
      all_map (λ (body : List ℕ). Unit {0}) (λ (found : Option Step). (step : Step) → found ≡ Some step → SparesLeases step) (manifest_step namespace bundled.0)
      (λ body u. manifest_spares namespace bundled.0 body) bundled.1 (all_each (λ (body : List ℕ). Unit {0}) (λ body. tt) bundled.1) in
      let manifests : AllByRecursion SparesLeases (flat_map (steps_of namespace) all) =
      all_flat SparesLeases (steps_of namespace) (λ bundled. all_there SparesLeases (read namespace bundled) (each bundled)) all in
      sorted_spare of_manifest (λ one. of_plan (new_subscription namespace manual one)) is_before (λ one. one.step) (λ s spares. spares) (λ one. refl)
      (flat_map (steps_of namespace) all) (unasked subscribed taken) manifests

  steps_are : (number : ℕ) (manual : Bool) (found : Result (List Step) PlanFault) (plan : PlanStatus) → with_steps number manual found ≡ Ok plan
      → (steps : List Step) × (found ≡ Ok steps) × (steps ≡ plan.steps)
  steps_are number manual (Ok steps) plan e =
      let is : new_plan number manual steps ≡ plan = cc e in (steps, refl, ap (λ (p : PlanStatus). p.steps) is)
  steps_are number manual (Err fault) plan e = cc e

  plan_spares : (resolution : ResolutionStatus) (v : View) (plan : PlanStatus) → plan_of resolution v ≡ Ok plan → AllByRecursion SparesLeases plan.steps
  plan_spares resolution v plan e =
      let taken = taken_by resolution.outcome in
      let subscribed = subscriptions v in
      let manual = is_manual subscribed taken in
      let all = map (bundled (visible_catalogs v)) taken in
      let parts = steps_are resolution.number manual (steps_for v taken) plan e in
      let turned = manifest_steps v.namespace all ++ added_steps v.namespace subscribed manual taken in
      let steps = steps_in_order turned in
      let ok = unless_ok (option_or (bad_manifest v.namespace all) (option_or (no_manifest v.namespace all) (same_key_fault steps))) steps parts.0 parts.1 in
      subst (AllByRecursion SparesLeases) (ok.1 ∙ parts.2) (steps_spare v.namespace all subscribed manual taken)

  made_spares : (v : View) (found : ResolutionStatus) (result : Result PlanStatus PlanFault) → plan_of found v ≡ result
      → AllByRecursion SparesLeases (plan_or_failed found v result).steps
  made_spares v found (Ok plan) is = plan_spares found v plan is
  made_spares v found (Err fault) is = tt

  new_spares : (v : View) (w : Write) (new : PlanStatus) → as_plan w.object ≡ Some new → IsResolversWrite v w → AllByRecursion SparesLeases new.steps
  new_spares v w new put (Decides rest due decision next is) =
      let there = (slot_in v.slots (resolution_key v.namespace)).object in
      absurd (none_is_some new (sym (ap (λ (x : Write). as_plan x.object) is ∙ no_plan_put v (current v) there decision) ∙ put))
  new_spares v w new put (Plans rest found stands due is) =
      let same : plan_made v found ≡ new = some_is (plan_made v found) new (sym (ap (λ (x : Write). as_plan x.object) is) ∙ put) in
      subst (λ (p : PlanStatus). AllByRecursion SparesLeases p.steps) same (made_spares v found (plan_of found v) refl)

-- ---- a plan that is there

-- No step of the newest plan of a key that may still be written is at the key of a lease.
abbrev pub AreSpared : History → Type 0
AreSpared h =
    (key : Key) (plan : PlanStatus) (i : ℕ) (step : Step) → is_plan_key key ≡ true → last_plan h key ≡ Some plan
    → slice_get plan.steps i ≡ Some step → is_open step.state ≡ true → is_lease_key step.key ≡ false

start_spared : (is_valid : List ℕ → Bool) (base : Base) → IsSoundByRoles is_valid base → AreSpared (Start base)
unfolding last_plan
start_spared is_valid base sound key plan i step kind last at may =
    sound.spared key plan i step (it_counts (is_plan_key key) (as_plan (slot_in base.slots key).object) kind ∙ last) at may

-- a step that may be written could be so before the edge
was_open : (s x : StepState) → StateEdge s x → is_open x ≡ true → is_open s ≡ true
was_open Unknown x e may = refl
was_open (Aimed v) x e may = refl
was_open Created x e may = ap is_open (sym e) ∙ may
was_open Present x e may = ap is_open (sym e) ∙ may
was_open Overtaken x e may = ap is_open (sym e) ∙ may

record OldStep (plan : PlanStatus) (i : ℕ) (t : Step) : Type 0 where
  step : Step
  at : slice_get plan.steps i ≡ Some step
  key : t.key ≡ step.key
  open_before : is_open t.state ≡ true → is_open step.state ≡ true

same_step : (plan new : PlanStatus) (i : ℕ) (t : Step) → new.steps ≡ plan.steps → slice_get new.steps i ≡ Some t → OldStep plan i t
same_step plan new i t e at =
    record { step = t; at = ap (λ (xs : List Step). slice_get xs i) (sym e) ∙ at; key = refl; open_before = λ so. so }

old_step : (plan new : PlanStatus) (i : ℕ) (t : Step) → PlanEdge plan new → slice_get new.steps i ≡ Some t → OldStep plan i t
old_step plan new i t (Stays e) at = same_step plan new i t (ap (λ (p : PlanStatus). p.steps) e) at
old_step plan new i t (BecomesApproved e) at = same_step plan new i t (ap (λ (p : PlanStatus). p.steps) e) at
old_step plan new i t (MovesPhase x p e) at = same_step plan new i t (ap (λ (p : PlanStatus). p.steps) e) at
old_step plan new i t (MovesStep j u x installing there moves e) at =
    elim (with_step_cases plan j u x there i t (ap (λ (p : PlanStatus). slice_get p.steps i) (sym e) ∙ at)) [
      | inl c ↦
          record {
            step = u;
            at = subst (λ n. slice_get plan.steps n ≡ Some u) (sym c.0) there;
            key = ap (λ (s : Step). s.key) c.1;
            open_before = λ so. was_open u.state x moves (ap (λ (s : Step). is_open s.state) (sym c.1) ∙ so);
          }
      | inr c ↦ record { step = t; at = c.1; key = refl; open_before = λ so. so }
    ]

or_none : (o : Option PlanStatus) (x : PlanStatus) → option_or o None ≡ Some x → o ≡ Some x
or_none None x e = e
or_none (Some y) x e = e

module _ (law : (namespace body : List ℕ) → AreMadeNew namespace body) (is_valid : List ℕ → Bool) where
  first_spared : (h : History) (w : Write) (new : PlanStatus) → w.by ≡ writer.Resolver → as_plan w.object ≡ Some new → By h w
      → AllByRecursion SparesLeases new.steps
  first_spared h w new resolver put (OfUser by event) = other_writer w writer.User writer.Resolver by resolver (λ e. cc)
  first_spared h w new resolver put (OfGrant by grant) = other_writer w writer.User writer.Resolver by resolver (λ e. cc)
  first_spared h w new resolver put (OfResolver by) = new_spares law _ w new put by.enabled
  first_spared h w new resolver put (OfInstaller by) = other_writer w writer.Installer writer.Resolver by.by resolver (λ e. cc)
  first_spared h w new resolver put (OfPhases by) = other_writer w writer.Phases writer.Resolver by.by resolver (λ e. cc)

  one_more : (h : History) (w : Write) → IsLawful is_valid (After w h) → IsKept is_valid (After w h) → AreSpared h → AreSpared (After w h)
  one_more h w lawful kept so key plan i step kind last at may = by_last (last_plan h key) refl
    where
      by_last : (o : Option PlanStatus) → last_plan h key ≡ o → is_lease_key step.key ≡ false
      by_last (Some old) was =
          let before = old_step old plan i step (edge is_valid h w key old plan lawful kind was last) at in
          ap is_lease_key before.key ∙ so key old i before.step kind was before.at (before.open_before may)
      by_last None was =
          let first = first_plan is_valid h w key plan lawful kind was last in
          let put = or_none (as_plan w.object) plan
          (ap (λ o. option_or (as_plan w.object) o) (sym was) ∙ sym (last_plan-written w h key first.0) ∙ last) in
          all_at SparesLeases plan.steps (first_spared h w plan first.1 put (who_had is_valid h w kept)) i step at

  pub all_spared : ((h : History) → IsKept is_valid h → IsLawful is_valid h) → (h : History) → IsKept is_valid h → AreSpared h
  all_spared lawful (Start base) kept = start_spared is_valid base kept
  all_spared lawful (After w h) kept = one_more h w (lawful (After w h) kept) kept (all_spared lawful h kept.2)
