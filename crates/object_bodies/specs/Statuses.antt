-- What a body says of its object's status, by the kind. The first field that is at fault counts.
use Rattle.std.specs.Prelude.{ℕ, not, if◌then◌else◌, List, [], ◌∷◌, Option, Some, None, Result, Ok, codes}
use Rattle.std.specs.List.{filter}
use Rattle.serde_json.specs.Data.{Data}
use Rattle.json_fields.specs.declared.fault.Fault.{Fault}
use Rattle.json_fields.specs.Faults.{and_then}
use Rattle.json_fields.specs.Values.{at, fields_of, name_at, name_item, opt_name_at, opt_list_at}
use Rattle.cluster_objects.specs.Keys.{same_text}
use Rattle.cluster_objects.specs.Kinds.{is_subscription_key, is_csv_key, is_deployment_key, is_strategy_key, is_group_key, status_of}
use Rattle.cluster_objects.specs.declared.groups.GroupStatus.{GroupStatus}
use Rattle.cluster_objects.specs.declared.groups.StrategyStatus.{StrategyStatus}
use Rattle.cluster_objects.specs.declared.keys.Key.{Key}
use Rattle.cluster_objects.specs.declared.objects.Status.{Status}
use Rattle.cluster_objects.specs.declared.objects.Status.TheVariants as status
use Rattle.cluster_objects.specs.declared.statuses.Crd.{Crd}
use Rattle.cluster_objects.specs.declared.statuses.CsvPhase.TheVariants as phase
use Rattle.cluster_objects.specs.declared.statuses.CsvStatus.{CsvStatus}
use Rattle.cluster_objects.specs.declared.statuses.Made.{Made}
use Rattle.cluster_objects.specs.declared.statuses.Made.TheVariants as made
use Rattle.cluster_objects.specs.declared.statuses.Readiness.TheVariants.{Waiting}
use Rattle.cluster_objects.specs.declared.statuses.SubSpec.{SubSpec}
use Rattle.cluster_objects.specs.declared.statuses.SubState.TheVariants as state
use Rattle.cluster_objects.specs.declared.statuses.SubscriptionStatus.{SubscriptionStatus}
use Rattle.object_bodies.specs.declared.csvs.CrdLists.{CrdLists}
use Rattle.object_bodies.specs.Fields.{fields_at, opt_fields_at, as_approval, as_forward, as_absent, version_at}

-- ---- subscriptions

abbrev pub sub_spec : Data → Result SubSpec Fault
sub_spec spec =
    and_then (name_at (codes "name") spec) (λ name.
    and_then (opt_name_at (codes "channel") spec) (λ channel.
    and_then (name_at (codes "source") spec) (λ source.
    and_then (name_at (codes "sourceNamespace") spec) (λ namespace.
    and_then (opt_name_at (codes "startingCSV") spec) (λ starting.
    and_then (at as_approval (codes "installPlanApproval") spec) (λ manual.
    Ok (record { «package» = name; channel = channel; source = source; source_namespace = namespace; starting = starting; manual = manual })))))))

-- a new subscription has no state
abbrev pub subscription : Data → Result SubscriptionStatus Fault
subscription value = and_then (fields_at sub_spec (codes "spec") value) (λ spec. Ok (record { spec = spec; state = state.Nothing }))

-- ---- CSVs

abbrev pub crd : Data → Result Crd Fault
crd value =
    and_then (fields_of value) (λ value.
    and_then (name_at (codes "name") value) (λ name.
    and_then (name_at (codes "version") value) (λ version.
    and_then (name_at (codes "kind") value) (λ kind.
    Ok (record { name = name; version = version; kind = kind })))))

abbrev pub crd_lists : Data → Result CrdLists Fault
crd_lists value =
    and_then (opt_list_at crd (codes "owned") value) (λ owned.
    and_then (opt_list_at crd (codes "required") value) (λ needed.
    Ok (record { owned = owned; needed = needed })))

abbrev pub deployment_name : Data → Result (List ℕ) Fault
deployment_name value = and_then (fields_of value) (λ value. name_at (codes "name") value)

-- the deployments of `install`
abbrev pub deployment_names : Data → Result (List (List ℕ)) Fault
deployment_names spec = opt_list_at deployment_name (codes "deployments") spec

abbrev pub install_names : Data → Result (List (List ℕ)) Fault
install_names install = opt_fields_at deployment_names (codes "spec") install

-- a new CSV has no phase, and its package is not known
abbrev pub new_csv : List ℕ → CrdLists → List (List ℕ) → Option (List ℕ) → CsvStatus
new_csv version crds deployments replaces =
    record {
      «package» = None;
      version = version;
      owned = crds.owned;
      needed = crds.needed;
      deployments = deployments;
      replaces = replaces;
      phase = phase.Nothing;
    }

abbrev pub csv_spec : Data → Result CsvStatus Fault
csv_spec spec =
    and_then (opt_fields_at crd_lists (codes "customresourcedefinitions") spec) (λ crds.
    and_then (opt_fields_at install_names (codes "install") spec) (λ deployments.
    and_then (opt_name_at (codes "replaces") spec) (λ replaces.
    Ok (new_csv (version_at spec) crds deployments replaces))))

abbrev pub csv : Data → Result CsvStatus Fault
csv value = opt_fields_at csv_spec (codes "spec") value

abbrev pub subscription_made : Data → Result Made Fault
subscription_made value = and_then (subscription value) (λ found. Ok (made.Subscription found))

abbrev pub csv_made : Data → Result Made Fault
csv_made value = and_then (csv value) (λ found. Ok (made.Csv found))

-- ---- upgrade strategies

abbrev pub strategy_spec : Data → Result StrategyStatus Fault
strategy_spec spec = and_then (at as_forward (codes "upgradeStrategy") spec) (λ forward. Ok (record { forward = forward }))

abbrev pub strategy : Data → Result StrategyStatus Fault
strategy value = opt_fields_at strategy_spec (codes "spec") value

-- ---- operator groups

-- each name once, where it is first
abbrev pub each_once : List (List ℕ) → List (List ℕ)
each_once [] = []
each_once (name ∷ names) = name ∷ filter (λ other. not (same_text other name)) (each_once names)

-- a list without names means all namespaces
abbrev pub targets_of : List (List ℕ) → Option (List (List ℕ))
targets_of [] = None
targets_of (name ∷ names) = Some (each_once (name ∷ names))

-- Namespaces are not selected by their labels.
abbrev pub group_spec : Data → Result GroupStatus Fault
group_spec spec =
    and_then (opt_list_at name_item (codes "targetNamespaces") spec) (λ names.
    and_then (at as_absent (codes "selector") spec) (λ nothing.
    Ok (record { targets = targets_of names })))

abbrev pub group : Data → Result GroupStatus Fault
group value = opt_fields_at group_spec (codes "spec") value

abbrev pub new_strategy : Data → Result Status Fault
new_strategy value = and_then (strategy value) (λ found. Ok (status.Strategy found))

abbrev pub new_group : Data → Result Status Fault
new_group value = and_then (group value) (λ found. Ok (status.Group found))

-- ---- by the key's group and kind; any other object is plain

-- what a step of a plan makes

abbrev pub made_of : Key → Data → Result Made Fault
made_of key value =
    if is_subscription_key key then subscription_made value
    else if is_csv_key key then csv_made value
    else if is_deployment_key key then Ok (made.Deployment Waiting)
    else Ok made.Plain

abbrev pub new_made : Key → Data → Result Status Fault
new_made key value = and_then (made_of key value) (λ made. Ok (status_of made))

-- what a user's body makes: that, and what is set for a whole namespace
abbrev pub new_status : Key → Data → Result Status Fault
new_status key value =
    if is_strategy_key key then new_strategy value
    else if is_group_key key then new_group value
    else new_made key value
