-- What the role phases may write in a view.
use Rattle.std.specs.Prelude.{ℕ, Bool, true, false, ◌&&◌, not, List, [], ◌++◌, map, Option, Some, None, if◌then◌else◌}
use Rattle.std.specs.List.{filter, filter_map, flat_map, list_any}
use Rattle.std.specs.Option.{is_none, is_some, option_map, option_map_or}
use Rattle.cluster_objects.specs.Keys.{same_text}
use Rattle.cluster_objects.specs.Kinds.{claims_at}
use Rattle.cluster_objects.specs.Places.{claims_key, deployment_key}
use Rattle.cluster_objects.specs.declared.groups.ClaimsStatus.{ClaimsStatus}
use Rattle.cluster_objects.specs.declared.keys.Key.{Key}
use Rattle.cluster_objects.specs.declared.objects.Object.{Object}
use Rattle.cluster_objects.specs.declared.objects.Status.{Status}
use Rattle.cluster_objects.specs.declared.objects.Status.TheVariants as status
use Rattle.cluster_objects.specs.declared.objects.Write.{Write}
use Rattle.cluster_objects.specs.declared.objects.Writer.TheVariants as writer
use Rattle.cluster_objects.specs.declared.statuses.CsvPhase.{CsvPhase}
use Rattle.cluster_objects.specs.declared.statuses.CsvPhase.TheVariants as phase
use Rattle.cluster_objects.specs.declared.statuses.Readiness.TheVariants.{Waiting}
use Rattle.cluster_objects.specs.declared.statuses.SubState.{SubState}
use Rattle.cluster_history.specs.History.{slot_in}
use Rattle.cluster_history.specs.Views.{View}
use Rattle.cluster_history.specs.declared.slots.Slot.{Slot}
use Rattle.lawful_history.specs.Installing.{owner_of}
use Rattle.operator_groups.specs.declared.claiming.Claimed.TheVariants.{Held, Taken, Next}
use Rattle.csv_phases.specs.Conditions.{first_unheld, group_fits, is_missing}
use Rattle.csv_phases.specs.Csvs.{Csv, csv_named, csvs, deployment_in, is_gone, is_in}
use Rattle.csv_phases.specs.Edges.{applies, chosen, row}
use Rattle.csv_phases.specs.States.{Subscription, same_state, state_of, subscriptions}
use Rattle.csv_phases.specs.declared.edges.Edge.{Edge}
use Rattle.csv_phases.specs.declared.edges.Edge.TheVariants.{Remove}

-- ---- the forms of a write: each expects the version that its key has in the view

-- what stands there, with another status; it has no stamp, and the view's length
abbrev pub with_status : View → Object → Status → Object
with_status view object new = record object { status = new; stamp = None; seen = view.length }

abbrev pub puts : Key → ℕ → Object → Write
puts key version object = record { by = writer.Phases; expect = version; key = key; object = Some object }

abbrev pub removes : Key → ℕ → Write
removes key version = record { by = writer.Phases; expect = version; key = key; object = None }

-- ---- edges: one of each CSV that takes one

abbrev pub with_phase : View → Csv → CsvPhase → Object
with_phase view csv new = with_status view csv.object (status.Csv (record csv.status { phase = new }))

-- What an edge makes of a CSV.
abbrev pub edge_write : View → Csv → Edge → Write
edge_write view csv edge = elim (row view csv edge).to [
  | None ↦ removes csv.key csv.version
  | Some new ↦ puts csv.key csv.version (with_phase view csv new)
]

abbrev pub edge_writes : View → List Write
edge_writes view = filter_map (λ csv. option_map (edge_write view csv) (chosen view csv)) (csvs view)

-- ---- removals of CSVs

abbrev pub removal_writes : View → List Write
removal_writes view = map (λ csv. edge_write view csv Remove) (filter (λ csv. applies view csv Remove) (csvs view))

-- ---- claims: for each CSV in Pending whose group fits

-- The claims with the one that comes next, where the first claim that isn't held isn't taken by another namespace.
abbrev pub next_claims : View → Csv → Option ClaimsStatus
next_claims view csv = elim (first_unheld view csv) [
  | None ↦ None
  | Some claimed ↦ (elim claimed [ Held ↦ None | Taken namespace ↦ None | Next next ↦ Some next ])
]

-- Claims that are there keep their owner, and new ones have none.
abbrev pub claims_owner : Option Object → Option (List ℕ)
claims_owner there = elim (claims_at claims_key there) [ None ↦ None | Some found ↦ owner_of there ]

-- the object of claims, with an empty body
abbrev pub claims_write : View → ClaimsStatus → Write
claims_write view next =
    let there = slot_in view.slots claims_key in
    puts claims_key there.version
    (record { body = []; status = status.Claims next; owner = claims_owner there.object; stamp = None; seen = view.length })

abbrev pub claims_writes : View → List Write
claims_writes view =
    filter_map (λ csv. option_map (claims_write view) (next_claims view csv))
    (filter (λ csv. is_in phase.Pending csv.status.phase && group_fits view csv) (csvs view))

-- ---- deployments: of each CSV in InstallReady those that are missing, where the key may be taken

-- Nothing stands at the key, or what stands there belongs to no CSV, or to one that is absent, Replacing or Deleting.
abbrev pub is_free : View → Option Object → Bool
is_free view there = option_map_or (is_gone view) (owner_of there) true

-- a Deployment that waits, with an empty body, and belongs to the CSV
abbrev pub new_deployment : View → Csv → Object
new_deployment view csv =
    record { body = []; status = status.Deployment Waiting; owner = Some csv.key.name; stamp = None; seen = view.length }

abbrev pub deployment_write : View → Csv → List ℕ → Option Write
deployment_write view csv name =
    let key = deployment_key view.namespace name in
    let there = slot_in view.slots key in
    if is_missing view csv name && is_free view there.object
    then Some (puts key there.version (new_deployment view csv))
    else None

-- A deployment that a CSV lists twice is written for each.
abbrev pub deployment_writes : View → List Write
deployment_writes view =
    flat_map (λ csv. filter_map (deployment_write view csv) csv.status.deployments)
    (filter (λ csv. is_in phase.InstallReady csv.status.phase) (csvs view))

-- ---- collection: Deployments whose CSV is absent

-- A CSV in InstallReady lists a deployment of this name.
abbrev pub is_listed : View → List ℕ → Bool
is_listed view name =
    list_any (λ csv. is_in phase.InstallReady csv.status.phase && list_any (same_text name) csv.status.deployments) (csvs view)

-- It belongs to a CSV, and that isn't there.
abbrev pub is_orphan : View → Option Object → Bool
is_orphan view there = option_map_or (λ owner. is_none (csv_named view owner)) (owner_of there) false

abbrev pub is_collected : View → Key × Slot → Bool
is_collected view entry =
    is_some (deployment_in view.namespace entry) && is_orphan view entry.1.object && not (is_listed view entry.0.name)

abbrev pub collection_writes : View → List Write
collection_writes view = map (λ entry. removes entry.0 entry.1.version) (filter (is_collected view) view.slots)

-- ---- states of subscriptions, where the kept one differs

abbrev pub with_state : View → Subscription → SubState → Object
with_state view subscription new =
    with_status view subscription.object (status.Subscription (record subscription.status { state = new }))

abbrev pub state_write : View → Subscription → Option Write
state_write view subscription =
    let new = state_of view subscription.status.spec in
    if same_state subscription.status.state new then None
    else Some (puts subscription.key subscription.version (with_state view subscription new))

abbrev pub state_writes : View → List Write
state_writes view = filter_map (state_write view) (subscriptions view)

-- ---- all of them, in their order

abbrev pub phases_writes : View → List Write
phases_writes view =
    edge_writes view ++ removal_writes view ++ claims_writes view ++ deployment_writes view ++ collection_writes view
    ++ state_writes view
