-- What may hold of a CSV in a view.
use Rattle.std.specs.Prelude.{ℕ, Bool, true, false, ◌&&◌, ◌||◌, not, List, [], map, Option, Some, None}
use Rattle.std.specs.List.{find, list_all, list_any}
use Rattle.std.specs.Option.{is_none, is_some, option_map_or}
use Rattle.cluster_objects.specs.Kinds.{claims_at}
use Rattle.cluster_objects.specs.Places.{claims_key, crd_key}
use Rattle.cluster_objects.specs.declared.groups.Claim.{Claim}
use Rattle.cluster_objects.specs.declared.statuses.Crd.{Crd}
use Rattle.cluster_objects.specs.declared.statuses.CsvPhase.TheVariants as phase
use Rattle.cluster_objects.specs.declared.statuses.Readiness.{Readiness}
use Rattle.cluster_objects.specs.declared.statuses.Readiness.TheVariants.{Waiting, Ready, Failed}
use Rattle.cluster_history.specs.History.{slot_in}
use Rattle.cluster_history.specs.Views.{View}
use Rattle.operator_groups.specs.Acts.{acts}
use Rattle.operator_groups.specs.Claiming.{claim}
use Rattle.operator_groups.specs.Modes.{fits}
use Rattle.operator_groups.specs.declared.claiming.Claimed.{Claimed}
use Rattle.operator_groups.specs.declared.claiming.Claimed.TheVariants.{Held, Taken, Next}
use Rattle.operator_groups.specs.declared.groups.Acts.TheVariants.{Ungrouped, Several, In, Everywhere}
use Rattle.view_basis.specs.Tips.{kind_of}
use Rattle.view_basis.specs.Forward.{is_forward}
use Rattle.csv_phases.specs.Csvs.{Csv, csvs, deployment_in, is_above, is_directly_above, is_gone, is_in, is_owned_by, owned_deployment}

-- ---- custom resource definitions

-- Something stands at the key of the definition.
abbrev pub is_crd_there : View → Crd → Bool
is_crd_there view crd = is_some (slot_in view.slots (crd_key crd.name)).object

-- Each definition that the CSV owns or needs is there.
abbrev pub crds_are_there : View → Csv → Bool
crds_are_there view csv = list_all (is_crd_there view) csv.status.owned && list_all (is_crd_there view) csv.status.needed

-- ---- the CSV that it replaces, and those that replace it

-- The CSV that it replaces, if it replaces one, is absent, Replacing or Deleting.
abbrev pub replaced_is_gone : View → Csv → Bool
replaced_is_gone view csv = option_map_or (is_gone view) csv.status.replaces true

abbrev pub is_succeeded : Csv → Bool
is_succeeded csv = is_in phase.Succeeded csv.status.phase

-- A CSV that names this one has succeeded; in a forward namespace one above it suffices.
abbrev pub is_succeeded_above : View → Csv → Bool
is_succeeded_above view csv =
    list_any (λ other. is_directly_above csv.key.name other && is_succeeded other) (csvs view)
    || (is_forward view && list_any (λ other. is_above view csv.key.name other && is_succeeded other) (csvs view))

-- ---- its deployments

abbrev pub is_ready_state : Readiness → Bool
is_ready_state Waiting = false
is_ready_state Ready = true
is_ready_state Failed = false

abbrev pub is_failed_state : Readiness → Bool
is_failed_state Waiting = false
is_failed_state Ready = false
is_failed_state Failed = true

-- A deployment is missing where no Deployment of that name is there that belongs to the CSV.
abbrev pub is_missing : View → Csv → List ℕ → Bool
is_missing view csv name = is_none (owned_deployment view csv name)

-- all are there
abbrev pub deployments_are_there : View → Csv → Bool
deployments_are_there view csv = list_all (λ name. not (is_missing view csv name)) csv.status.deployments

-- all are there and Ready
abbrev pub deployments_are_ready : View → Csv → Bool
deployments_are_ready view csv =
    list_all (λ name. option_map_or is_ready_state (owned_deployment view csv name) false) csv.status.deployments

-- one is missing or Failed
abbrev pub deployment_is_lost : View → Csv → Bool
deployment_is_lost view csv =
    list_any (λ name. option_map_or is_failed_state (owned_deployment view csv name) true) csv.status.deployments

-- A Deployment that belongs to the CSV is Failed, whether the CSV lists it or not.
abbrev pub owns_failed : View → Csv → Bool
owns_failed view csv =
    list_any (λ entry. option_map_or is_failed_state (deployment_in view.namespace entry) false
    && is_owned_by csv.key.name entry.1.object) view.slots

-- ---- its group, and what it claims

abbrev pub group_fits : View → Csv → Bool
group_fits view csv = fits view csv.object.body

-- The claims of all namespaces. Where there is no object of claims, nobody claims anything.
abbrev pub claims : View → List Claim
claims view = option_map_or (λ status. status.entries) (claims_at claims_key (slot_in view.slots claims_key).object) []

-- What comes of claiming the kind of an owned definition for these targets.
abbrev pub claim_of : View → Option (List (List ℕ)) → Crd → Claimed
claim_of view targets crd =
    claim (claims view) (record { kind = kind_of crd; namespace = view.namespace; targets = targets })

abbrev pub is_held : Claimed → Bool
is_held Held = true
is_held (Taken namespace) = false
is_held (Next next) = false

-- What comes of it for each kind that the CSV owns.
abbrev pub claims_of : View → Option (List (List ℕ)) → Csv → List Claimed
claims_of view targets csv = map (claim_of view targets) csv.status.owned

-- The claim of each owned kind is held for the group's targets. Without a group none is asked for.
abbrev pub claims_are_held : View → Csv → Bool
claims_are_held view csv = elim (acts view) [
  | Ungrouped ↦ true
  | Several ↦ false
  | In targets ↦ list_all is_held (claims_of view (Some targets) csv)
  | Everywhere ↦ list_all is_held (claims_of view None csv)
]

-- The first claim that isn't held, where the group has targets.
abbrev pub first_unheld : View → Csv → Option Claimed
first_unheld view csv = elim (acts view) [
  | Ungrouped ↦ None
  | Several ↦ None
  | In targets ↦ find (λ claimed. not (is_held claimed)) (claims_of view (Some targets) csv)
  | Everywhere ↦ find (λ claimed. not (is_held claimed)) (claims_of view None csv)
]

-- ---- all of it together

-- The CSV is ready to install.
abbrev pub is_ready : View → Csv → Bool
is_ready view csv =
    crds_are_there view csv && replaced_is_gone view csv && group_fits view csv && claims_are_held view csv
