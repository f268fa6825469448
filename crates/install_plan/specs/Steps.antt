-- The steps that what is taken makes: one for each of its manifests.
use Rattle.std.specs.Prelude.{ℕ, Bool, ◌&&◌, not, if◌then◌else◌, List, [], ◌∷◌, map, false, is_none, Option, Some, None, Result, Ok, Err}
use Rattle.std.specs.List.{filter_map, find, list_any, position}
use Rattle.std.specs.Option.{option_map, option_map_or, option_or}
use Rattle.cluster_objects.specs.Keys.{same_text}
use Rattle.cluster_objects.specs.Kinds.{is_csv_key}
use Rattle.cluster_objects.specs.declared.keys.Key.{Key}
use Rattle.cluster_objects.specs.declared.plans.PlanFault.{PlanFault}
use Rattle.cluster_objects.specs.declared.plans.PlanFault.TheVariants.{BadManifest, NoManifest}
use Rattle.cluster_objects.specs.declared.plans.Step.{Step}
use Rattle.cluster_objects.specs.declared.plans.StepState.TheVariants.{Unknown}
use Rattle.cluster_objects.specs.declared.resolutions.Taken.{Taken}
use Rattle.cluster_objects.specs.declared.statuses.CsvPhase.TheVariants as phase
use Rattle.cluster_objects.specs.declared.statuses.Made.{Made}
use Rattle.cluster_objects.specs.declared.statuses.Made.TheVariants as made
use Rattle.object_bodies.specs.Bodies.{plan_object}
use Rattle.object_bodies.specs.declared.faults.ObjectFault.{ObjectFault}

-- A CSV gets its package, its version and the version that it replaces from what is taken, and has no phase yet.
abbrev pub made_for : Taken → Made → Made
made_for taken made.Plain = made.Plain
made_for taken (made.Subscription status) = made.Subscription status
made_for taken (made.Csv status) =
    made.Csv (record status { «package» = Some taken.«package»; version = taken.version; replaces = taken.replaces; phase = phase.Nothing })
made_for taken (made.Deployment readiness) = made.Deployment readiness

-- a CSV of another name than what is taken
abbrev pub is_stranger : Taken → Key → Bool
is_stranger taken key = is_csv_key key && not (same_text key.name taken.name)

-- the step of an object that was read; none where it can't be taken
abbrev pub step_of : Taken → List ℕ → Result (Key × Made) ObjectFault → Option Step
step_of taken body (Err fault) = None
step_of taken body (Ok found) =
    if is_stranger taken found.0 then None
    else Some (record { key = found.0; body = body; made = made_for taken found.1; state = Unknown })

-- the step of a manifest in a plan of this namespace
abbrev pub manifest_step : List ℕ → Taken → List ℕ → Option Step
manifest_step namespace taken body = step_of taken body (plan_object namespace body)

-- something that is taken, and its manifests
abbrev pub Bundled : Type 0
Bundled = Taken × List (List ℕ)

-- what the manifests give: a step each, or none where one can't be taken
abbrev pub read : List ℕ → Bundled → List (Option Step)
read namespace bundled = map (manifest_step namespace bundled.0) bundled.1

abbrev pub steps_of : List ℕ → Bundled → List Step
steps_of namespace bundled = filter_map (λ found. found) (read namespace bundled)

abbrev pub unless : {T : Type 0} → Option PlanFault → T → Result T PlanFault
unless None value = Ok value
unless (Some fault) value = Err fault

-- the first manifest that gives no step, as its index from 0
abbrev pub bad_in : List ℕ → Bundled → Option PlanFault
bad_in namespace bundled = option_map (λ i. BadManifest bundled.0.name i) (position is_none (read namespace bundled))

abbrev pub is_csv_step : Option Step → Bool
is_csv_step found = option_map_or (λ step. is_csv_key step.key) found false

abbrev pub lacks_csv : List ℕ → Bundled → Bool
lacks_csv namespace bundled = not (list_any is_csv_step (read namespace bundled))

-- what the manifests of one give, where none is bad
abbrev pub good_steps : List ℕ → Bundled → Result (List (Option Step)) PlanFault
good_steps namespace bundled = unless (bad_in namespace bundled) (read namespace bundled)

-- the first manifest of all that gives no step
abbrev pub bad_manifest : List ℕ → List Bundled → Option PlanFault
bad_manifest namespace [] = None
bad_manifest namespace (bundled ∷ more) = option_or (bad_in namespace bundled) (bad_manifest namespace more)

-- the cause where this is the first that has no CSV
abbrev pub lacking_fault : Option Taken → Option PlanFault
lacking_fault lacking = option_map (λ one. NoManifest one.name) lacking

-- the first of those taken that has no CSV
abbrev pub no_manifest : List ℕ → List Bundled → Option PlanFault
no_manifest namespace all = option_map (λ bundled. NoManifest bundled.0.name) (find (lacks_csv namespace) all)
