-- The CSVs of a namespace, and their deployments.
use Rattle.std.specs.Prelude.{ℕ, ◌==◌, Bool, true, false, ◌&&◌, not, length, List, Option, None, zero, suc, ◌||◌, if◌then◌else◌}
use Rattle.std.specs.List.{filter_map}
use Rattle.std.specs.Option.{option_and_then, option_map, option_map_or}
use Rattle.cluster_objects.specs.Keys.{same_text}
use Rattle.cluster_objects.specs.Kinds.{csv_at, deployment_at}
use Rattle.cluster_objects.specs.Places.{csv_key, deployment_key}
use Rattle.cluster_objects.specs.declared.keys.Key.{Key}
use Rattle.cluster_objects.specs.declared.objects.Object.{Object}
use Rattle.cluster_objects.specs.declared.statuses.CsvPhase.{CsvPhase}
use Rattle.cluster_objects.specs.declared.statuses.CsvPhase.TheVariants as phase
use Rattle.cluster_objects.specs.declared.statuses.CsvStatus.{CsvStatus}
use Rattle.cluster_objects.specs.declared.statuses.Readiness.{Readiness}
use Rattle.cluster_history.specs.History.{slot_in}
use Rattle.cluster_history.specs.Views.{View}
use Rattle.cluster_history.specs.declared.slots.Slot.{Slot}
use Rattle.lawful_history.specs.Installing.{owner_of}
use Rattle.view_basis.specs.Tips.{csv_in, names}

-- A CSV of the view's namespace: what stands at its key in which version, and its status.
pub record Csv : Type 0 where
  pub key : Key
  pub version : ℕ
  pub object : Object
  pub status : CsvStatus

abbrev pub csv_of : Key × Slot → CsvStatus → Option Csv
csv_of entry status =
    option_map (λ object. record { key = entry.0; version = entry.1.version; object = object; status = status }) entry.1.object

-- The CSV of a slot, if one of the view's namespace stands there.
abbrev pub csv_entry : View → Key × Slot → Option Csv
csv_entry view entry = option_and_then (csv_of entry) (csv_in view.namespace entry)

-- The CSVs, in the order of the slots, which is that of their names.
abbrev pub csvs : View → List Csv
csvs view = filter_map (csv_entry view) view.slots

-- The CSV of this name, if it is there.
abbrev pub csv_named : View → List ℕ → Option CsvStatus
csv_named view name = let key = csv_key view.namespace name in csv_at key (slot_in view.slots key).object

-- ---- phases

-- the phases in the order of an installation, from 0 on
abbrev pub rank : CsvPhase → ℕ
rank phase.Nothing = 0
rank phase.Pending = 1
rank phase.InstallReady = 2
rank phase.Installing = 3
rank phase.Succeeded = 4
rank phase.Failed = 5
rank phase.Replacing = 6
rank phase.Deleting = 7

-- the same phase
abbrev pub is_in : CsvPhase → CsvPhase → Bool
is_in wanted found = rank wanted == rank found

-- one of the phases from None to Failed, in which a CSV is not yet replaced
abbrev pub is_current : CsvPhase → Bool
is_current phase.Nothing = true
is_current phase.Pending = true
is_current phase.InstallReady = true
is_current phase.Installing = true
is_current phase.Succeeded = true
is_current phase.Failed = true
is_current phase.Replacing = false
is_current phase.Deleting = false

-- No CSV of this name is there, or it is Replacing or Deleting.
abbrev pub is_gone : View → List ℕ → Bool
is_gone view name = option_map_or (λ csv. not (is_current csv.phase)) (csv_named view name) true

-- ---- the CSVs above one

-- The CSV is another one than that of this name, and names it in `replaces`.
abbrev pub is_directly_above : List ℕ → Csv → Bool
is_directly_above name csv = not (same_text csv.key.name name) && names name csv.status

-- Who follows what each CSV replaces, from the first name on, comes to the second name in at most so many steps.
abbrev pub leads_to : ℕ → View → List ℕ → List ℕ → Bool
leads_to zero view from name = false
leads_to (suc steps) view from name =
    option_map_or (λ next. same_text name next || leads_to steps view next name)
    (option_and_then (λ csv. csv.replaces) (csv_named view from)) false

-- The CSV names this one in `replaces`, or names one that does, and so on; and it is another one. No way is longer than there
-- are slots.
abbrev pub is_above : View → List ℕ → Csv → Bool
is_above view name csv = not (same_text csv.key.name name) && leads_to (length view.slots) view csv.key.name name

-- ---- deployments

-- What stands there belongs to the CSV of this name.
abbrev pub is_owned_by : List ℕ → Option Object → Bool
is_owned_by name object = option_map_or (same_text name) (owner_of object) false

-- The Deployment of a slot, if one of this namespace stands there.
abbrev pub deployment_in : List ℕ → Key × Slot → Option Readiness
deployment_in namespace entry =
    if same_text entry.0.namespace namespace then deployment_at entry.0 entry.1.object else None

-- The Deployment of this name, if it is there and belongs to the CSV.
abbrev pub owned_deployment : View → Csv → List ℕ → Option Readiness
owned_deployment view csv name =
    let key = deployment_key view.namespace name in
    let there = (slot_in view.slots key).object in
    if is_owned_by csv.key.name there then deployment_at key there else None
