-- Each step of a plan is one that a plan may have.
use Rattle.std.proofs.Common.{◌≡◌, ◌⊎◌, ℕ, Bool, true, false, not, ◌||◌, ◌&&◌, cond, inl, inr, List, [], ◌∷◌, ◌++◌, map, Option, Some, None, Result, Ok, Err, if◌then◌else◌, refl, sym, ap, ◌∙◌, subst, codes}
use Rattle.std.specs.Prelude.{filter}
use Rattle.std.specs.List.{AllByRecursion, filter_map, flat_map}
use Rattle.std.proofs.lemmas.Bool.{and_parts}
use Rattle.cluster_objects.specs.Keys.{same_text}
use Rattle.cluster_objects.specs.Kinds.{is_csv_key, is_subscription_key, is_deployment_key, is_plan_key, is_catalog_key, is_resolution_key, is_claims_key, is_lease_key, status_of}
use Rattle.cluster_objects.specs.Places.{subscription_key}
use Rattle.cluster_objects.specs.declared.keys.Key.{Key}
use Rattle.cluster_objects.specs.declared.plans.Step.{Step}
use Rattle.cluster_objects.specs.declared.plans.StepState.TheVariants.{Unknown}
use Rattle.cluster_objects.specs.declared.resolutions.Taken.{Taken}
use Rattle.cluster_objects.specs.declared.statuses.CsvPhase.TheVariants as phase
use Rattle.cluster_objects.specs.declared.statuses.Made.{Made}
use Rattle.cluster_objects.specs.declared.statuses.Made.TheVariants as made
use Rattle.cluster_objects.proofs.Stamping.{same_text-true}
use Rattle.object_bodies.specs.Bodies.{plan_object, plan_value, plan_parts, value_of}
use Rattle.object_bodies.specs.Faults.{told, bad_field}
use Rattle.object_bodies.specs.Heads.{is_forbidden, is_setting, is_forbidden_in_plans, is_clusterwide, manifest_key, plan_namespace, placed}
use Rattle.object_bodies.specs.Laws.{AreMadeNew, IsNewAt}
use Rattle.object_bodies.specs.Statuses.{made_of}
use Rattle.object_bodies.specs.declared.faults.ObjectFault.{ObjectFault}
use Rattle.object_bodies.proofs.Reading.{read_then, read_told, same_ok}
use Rattle.lawful_history.specs.Lawful.{IsStepOf, MakesItsKind}
use Rattle.install_plan.specs.Steps.{Bundled, made_for, is_stranger, step_of, manifest_step, read, steps_of}
use Rattle.install_plan.specs.Subscribing.{Subscriptions, new_subscription, new_name}
use Rattle.install_plan.specs.declared.turns.Turned.{Turned}
use Rattle.install_plan.specs.Plans.{of_manifest, of_plan, is_before, is_same_step, first_ones, unasked, added_steps, manifest_steps, steps_in_order}
use Rattle.install_plan.proofs.Members.{none_is_some, all_append, all_filter, all_there, all_flat, all_map, all_each, all_sorted}
use Rattle.upgrade_graph.specs.Sorting.{sorted}

-- the step may stand in a plan at this key, and nothing was done of it
pub record Fits (key : Key) (step : Step) : Type 0 where
  pub is : IsStepOf key step
  pub state : step.state ≡ Unknown

-- ---- the namespace of a manifest's object

place_of : (kind namespace : List ℕ) (b : Bool) → is_clusterwide kind ≡ b → ((if b then [] else namespace) ≡ namespace) ⊎ ((if b then [] else namespace) ≡ [])
place_of kind namespace true e = inr refl
place_of kind namespace false e = inl refl

manifest_place : (namespace body : List ℕ) (found : Key × Made) → plan_object namespace body ≡ Ok found → (found.0.namespace ≡ namespace) ⊎ (found.0.namespace ≡ [])
manifest_place namespace body found e =
    let value = read_then (value_of body) (plan_value namespace) found e in
    let key = read_then (manifest_key value.0) (λ key. told bad_field (plan_parts namespace key value.0)) found value.2 in
    let parts = read_told bad_field (plan_parts namespace key.0 value.0) found key.2 in
    let made = read_then (made_of key.0 value.0) (λ made. Ok (placed key.0 (plan_namespace key.0.kind namespace), made)) found parts in
    let is : (placed key.0 (plan_namespace key.0.kind namespace), made.0) ≡ found = same_ok _ found made.2 in
    subst (λ (found : Key × Made). (found.0.namespace ≡ namespace) ⊎ (found.0.namespace ≡ [])) is (place_of key.0.kind namespace (is_clusterwide key.0.kind) refl)

-- ---- its kind

first_false : (a b : Bool) → (a || b) ≡ false → a ≡ false
first_false false b e = refl
first_false true b e = cc e

second_false : (a b : Bool) → (a || b) ≡ false → b ≡ false
second_false false b e = e
second_false true b e = cc e

deployments_apart : (key : Key) → is_deployment_key key ≡ true → (is_csv_key key ≡ false) × (is_subscription_key key ≡ false)
deployments_apart key is =
    let parts = and_parts (same_text key.group (codes "apps")) (same_text key.kind (codes "Deployment")) is in
    let group : key.group ≡ codes "apps" = same_text-true key.group (codes "apps") parts.0 in (
      ap (λ (group : List ℕ). same_text group (codes "operators.coreos.com") && same_text key.kind (codes "ClusterServiceVersion")) group,
      ap (λ (group : List ℕ). same_text group (codes "operators.coreos.com") && same_text key.kind (codes "Subscription")) group,
    )

made_fits : (taken : Taken) (key : Key) (given : Made) → IsNewAt key (status_of given) → MakesItsKind key (made_for taken given)
made_fits taken key made.Plain new = (new.1, new.0)
made_fits taken key (made.Subscription status) new = new
made_fits taken key (made.Csv status) new = (new.0, refl)
made_fits taken key (made.Deployment readiness) new = deployments_apart key new.0

-- ---- a manifest's step

manifest_fits : ((namespace body : List ℕ) → AreMadeNew namespace body) → (key : Key) (taken : Taken) (body : List ℕ) (step : Step)
    → manifest_step key.namespace taken body ≡ Some step → Fits key step
manifest_fits law key taken body step e = by_read (plan_object key.namespace body) refl e
  where
    fits : (found : Key × Made) → plan_object key.namespace body ≡ Ok found
        → Fits key (record { key = found.0; body = body; made = made_for taken found.1; state = Unknown })
    fits found is =
        let new = law key.namespace body found is in
        let plan = is_plan_key found.0 in
        let catalog = is_catalog_key found.0 in
        let resolution = is_resolution_key found.0 in
        let claims = is_claims_key found.0 in
        let free = first_false (is_forbidden found.0) (is_setting found.0) new.0 in
        let four = first_false (plan || catalog || resolution || claims) (is_lease_key found.0) free in
        let three = first_false (plan || catalog || resolution) claims four in
        let two = first_false (plan || catalog) resolution three in
        record {
          is = record {
            place = manifest_place key.namespace body found is;
            plan = first_false plan catalog two;
            resolution = second_false (plan || catalog) resolution three;
            catalog = second_false plan catalog two;
            makes = made_fits taken found.0 found.1 new.1;
          };
          state = refl;
        }

    by_stranger : (found : Key × Made) → plan_object key.namespace body ≡ Ok found → (b : Bool)
        → (if b then None else Some (record { key = found.0; body = body; made = made_for taken found.1; state = Unknown })) ≡ Some step → Fits key step
    by_stranger found is true e = absurd (none_is_some step e)
    by_stranger found is false e = subst (Fits key) (cc e) (fits found is)

    by_read : (read : Result (Key × Made) ObjectFault) → plan_object key.namespace body ≡ read → step_of taken body read ≡ Some step → Fits key step
    by_read (Err fault) is e = absurd (none_is_some step e)
    by_read (Ok found) is e = by_stranger found is (is_stranger taken found.0) e

-- ---- a step that the plan adds

added_fits : (key : Key) (manual : Bool) (taken : Taken) → Fits key (new_subscription key.namespace manual taken)
added_fits key manual taken =
    record {
      is = record { place = inl refl; plan = refl; resolution = refl; catalog = refl; makes = (refl, refl) };
      state = refl;
    }

-- ---- all steps

abbrev TurnFits : Key → Turned → Type 0
TurnFits key turned = Fits key turned.step

ones_fit : (key : Key) (steps : List Step) → AllByRecursion (Fits key) steps → AllByRecursion (Fits key) (first_ones steps)
ones_fit key [] all = tt
ones_fit key (step ∷ steps) all = (all.0, all_filter (Fits key) (λ other. not (is_same_step step other)) (first_ones steps) (ones_fit key steps all.1))

pub steps_fit : ((namespace body : List ℕ) → AreMadeNew namespace body) → (key : Key) (all : List Bundled) (subscriptions : Subscriptions) (manual : Bool) (taken : List Taken)
    → AllByRecursion (Fits key) (steps_in_order (manifest_steps key.namespace all ++ added_steps key.namespace subscriptions manual taken))
steps_fit law key all subscriptions manual taken =
    let each = λ (bundled : Bundled).
    all_map (λ (body : List ℕ). Unit {0}) (λ (found : Option Step). (step : Step) → found ≡ Some step → Fits key step) (manifest_step key.namespace bundled.0)
    (λ body u. manifest_fits law key bundled.0 body) bundled.1 (all_each (λ (body : List ℕ). Unit {0}) (λ body. tt) bundled.1) in
    let manifests : AllByRecursion (Fits key) (flat_map (steps_of key.namespace) all) =
    all_flat (Fits key) (steps_of key.namespace) (λ bundled. all_there (Fits key) (read key.namespace bundled) (each bundled)) all in
    let first = all_map (Fits key) (TurnFits key) of_manifest (λ step fits. fits) (flat_map (steps_of key.namespace) all) manifests in
    let added = all_map (λ (one : Taken). Unit {0}) (TurnFits key) (λ one. of_plan (new_subscription key.namespace manual one)) (λ one u. added_fits key manual one)
    (unasked subscriptions taken) (all_each (λ (one : Taken). Unit {0}) (λ one. tt) (unasked subscriptions taken)) in
    let both = all_append (TurnFits key) (manifest_steps key.namespace all) (added_steps key.namespace subscriptions manual taken) first added in
    let turned = manifest_steps key.namespace all ++ added_steps key.namespace subscriptions manual taken in
    let ordered = all_sorted (TurnFits key) is_before turned both in
    ones_fit key (map (λ one. one.step) (sorted is_before turned)) (all_map (TurnFits key) (Fits key) (λ one. one.step) (λ one fits. fits) (sorted is_before turned) ordered)
