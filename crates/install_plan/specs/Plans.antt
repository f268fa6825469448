-- The plan of a resolution: its steps in their order, or why there is none.
use Rattle.std.specs.Prelude.{ℕ, ◌+◌, Bool, false, ◌&&◌, not, nat_lt, if◌then◌else◌, List, [], ◌∷◌, ◌++◌, map, filter, Option, Some, None, Result, Ok, Err}
use Rattle.std.specs.List.{flat_map, position}
use Rattle.std.specs.Option.{option_or, unwrap_or}
use Rattle.std.specs.Ordering.{is_lt, nat_cmp, ordering_then}
use Rattle.std.specs.declared.cmp.Ordering.{Ordering}
use Rattle.cluster_objects.specs.Keys.{key_cmp, same_key, same_text}
use Rattle.cluster_objects.specs.Kinds.{is_crd_key, is_csv_key}
use Rattle.cluster_objects.specs.declared.keys.Key.{Key}
use Rattle.cluster_objects.specs.declared.plans.PlanFault.{PlanFault}
use Rattle.cluster_objects.specs.declared.plans.PlanFault.TheVariants.{SameKey}
use Rattle.cluster_objects.specs.declared.plans.PlanPhase.TheVariants as phase
use Rattle.cluster_objects.specs.declared.plans.PlanStatus.{PlanStatus}
use Rattle.cluster_objects.specs.declared.plans.Step.{Step}
use Rattle.cluster_objects.specs.declared.resolutions.Outcome.{Outcome}
use Rattle.cluster_objects.specs.declared.resolutions.Outcome.TheVariants as outcome
use Rattle.cluster_objects.specs.declared.resolutions.ResolutionStatus.{ResolutionStatus}
use Rattle.cluster_objects.specs.declared.resolutions.Taken.{Taken}
use Rattle.cluster_history.specs.Views.{View}
use Rattle.upgrade_graph.specs.Sorting.{sorted}
use Rattle.view_basis.specs.Basis.{subscriptions}
use Rattle.view_basis.specs.Visible.{visible_catalogs}
use Rattle.view_basis.specs.declared.visible.Visible.{Visible}
use Rattle.install_plan.specs.Manifests.{manifests}
use Rattle.install_plan.specs.Steps.{Bundled, steps_of, bad_manifest, no_manifest, unless}
use Rattle.install_plan.specs.declared.turns.Turn.{Turn}
use Rattle.install_plan.specs.declared.turns.Turn.TheVariants.{Definition, Other, Added, Csv}
use Rattle.install_plan.specs.declared.turns.Turned.{Turned}
use Rattle.install_plan.specs.Subscribing.{Subscriptions, is_subscribed, is_manual, new_subscription}

-- ---- the order of steps

-- Definitions of resources are made first, then other manifests, then the subscriptions that the plan adds, and CSVs last.
abbrev pub turn_number : Turn → ℕ
turn_number Definition = 0
turn_number Other = 1
turn_number Added = 2
turn_number Csv = 3

-- the turn of a manifest's step
abbrev pub turn_of : Key → Turn
turn_of key = if is_crd_key key then Definition else if is_csv_key key then Csv else Other

abbrev pub of_manifest : Step → Turned
of_manifest step = record { turn = turn_of step.key; step = step }

abbrev pub of_plan : Step → Turned
of_plan step = record { turn = Added; step = step }

-- by turn, and then by key
abbrev pub turned_cmp : Turned → Turned → Ordering
turned_cmp a b = ordering_then (nat_cmp (turn_number a.turn) (turn_number b.turn)) (key_cmp a.step.key b.step.key)

-- equal ones stay in the order of what is taken
abbrev pub is_before : Turned → Turned → Bool
is_before a b = is_lt (turned_cmp a b)

-- ---- the steps that are left

abbrev pub is_same_step : Step → Step → Bool
is_same_step a b = same_key a.key b.key && same_text a.body b.body

-- Of steps with equal key and body the first stays.
abbrev pub first_ones : List Step → List Step
first_ones [] = []
first_ones (step ∷ steps) = step ∷ filter (λ other. not (is_same_step step other)) (first_ones steps)

-- where the first step with this key stands
abbrev pub first_with : List Step → Key → Option ℕ
first_with steps key = position (λ step. same_key step.key key) steps

-- The steps from this place on: the first of them whose key stands before it, with the first place of that key.
abbrev pub repeated : List Step → ℕ → List Step → Option PlanFault
repeated all place [] = None
repeated all place (step ∷ steps) =
    let first = unwrap_or (first_with all step.key) place in
    if nat_lt first place then Some (SameKey first place) else repeated all (place + 1) steps

-- the least second of two steps with one key, and then the least first
abbrev pub same_key_fault : List Step → Option PlanFault
same_key_fault steps = repeated steps 0 steps

-- ---- the plan

abbrev pub bundled : List Visible → Taken → Bundled
bundled catalogs taken = (taken, manifests catalogs taken)

abbrev pub manifest_steps : List ℕ → List Bundled → List Turned
manifest_steps namespace all = map of_manifest (flat_map (steps_of namespace) all)

-- the packages that nobody subscribed to
abbrev pub unasked : Subscriptions → List Taken → List Taken
unasked subscriptions taken = filter (λ one. not (is_subscribed subscriptions one)) taken

abbrev pub added_steps : List ℕ → Subscriptions → Bool → List Taken → List Turned
added_steps namespace subscriptions manual taken = map (λ one. of_plan (new_subscription namespace manual one)) (unasked subscriptions taken)

-- all steps in order, equal ones once
abbrev pub steps_in_order : List Turned → List Step
steps_in_order turned = first_ones (map (λ one. one.step) (sorted is_before turned))

-- the steps of all manifests, where each gives a step and each that is taken has a CSV
abbrev pub good_manifests : List ℕ → List Bundled → Result (List Turned) PlanFault
good_manifests namespace all = unless (option_or (bad_manifest namespace all) (no_manifest namespace all)) (manifest_steps namespace all)

-- the steps that are left, where no two have one key
abbrev pub kept_steps : List Turned → Result (List Step) PlanFault
kept_steps turned = unless (same_key_fault (steps_in_order turned)) (steps_in_order turned)

-- The steps for what is taken, or the first cause: a manifest that can't be taken, something taken without a CSV, or two steps with one key.
abbrev pub steps_from : List ℕ → List Visible → Subscriptions → List Taken → Result (List Step) PlanFault
steps_from namespace catalogs subscribed taken =
    let all = map (bundled catalogs) taken in
    let turned = manifest_steps namespace all ++ added_steps namespace subscribed (is_manual subscribed taken) taken in
    let steps = steps_in_order turned in
    unless (option_or (bad_manifest namespace all) (option_or (no_manifest namespace all) (same_key_fault steps))) steps

abbrev pub steps_for : View → List Taken → Result (List Step) PlanFault
steps_for view taken = steps_from view.namespace (visible_catalogs view) (subscriptions view) taken

-- what a resolution takes
abbrev pub taken_by : Outcome → List Taken
taken_by outcome.Nothing = []
taken_by (outcome.Chosen walk taken) = taken
taken_by outcome.Refused = []
taken_by (outcome.Undecided lemmas) = []
taken_by (outcome.TooLarge count) = []

-- a new plan with these steps waits for its approval where it is manual
abbrev pub new_plan : ℕ → Bool → List Step → PlanStatus
new_plan number manual steps =
    record {
      number = number;
      manual = manual;
      approved = false;
      phase = if manual then phase.RequiresApproval else phase.Planning;
      cause = None;
      steps = steps;
    }

abbrev pub with_steps : ℕ → Bool → Result (List Step) PlanFault → Result PlanStatus PlanFault
with_steps number manual (Ok steps) = Ok (new_plan number manual steps)
with_steps number manual (Err fault) = Err fault

-- The plan of a resolution in a view.
abbrev pub plan_of : ResolutionStatus → View → Result PlanStatus PlanFault
plan_of resolution view =
    let taken = taken_by resolution.outcome in
    with_steps resolution.number (is_manual (subscriptions view) taken) (steps_for view taken)

-- the plan that is written where a resolution has none
abbrev pub failed_plan : ResolutionStatus → View → PlanFault → PlanStatus
failed_plan resolution view fault =
    record {
      number = resolution.number;
      manual = is_manual (subscriptions view) (taken_by resolution.outcome);
      approved = false;
      phase = phase.Failed;
      cause = Some fault;
      steps = [];
    }
