-- The writes of claims, deployments and collection, CSV by CSV and slot by slot.
use Rattle.std.specs.Prelude.{ℕ, Bool, ◌&&◌, [], List, Option, Some, None, slice_get, if◌then◌else◌}
use Rattle.std.specs.List.{filter_map, list_any}
use Rattle.std.specs.Option.{option_map}
use Rattle.cluster_objects.specs.Keys.{same_text}
use Rattle.cluster_objects.specs.declared.groups.ClaimsStatus.{ClaimsStatus}
use Rattle.cluster_objects.specs.declared.keys.Key.{Key}
use Rattle.cluster_objects.specs.declared.objects.Object.{Object}
use Rattle.cluster_objects.specs.declared.objects.Status.TheVariants as status
use Rattle.cluster_objects.specs.declared.objects.Write.{Write}
use Rattle.cluster_objects.specs.declared.statuses.CsvPhase.TheVariants as phase
use Rattle.cluster_history.specs.Views.{View}
use Rattle.cluster_history.specs.declared.slots.Slot.{Slot}
use Rattle.operator_groups.specs.declared.claiming.Claimed.{Claimed}
use Rattle.operator_groups.specs.declared.claiming.Claimed.TheVariants.{Held, Taken, Next}
use Rattle.csv_phases.specs.Conditions.{group_fits}
use Rattle.csv_phases.specs.Csvs.{Csv, is_in}
use Rattle.csv_phases.specs.Phases.{claims_owner, claims_write, deployment_write, is_collected, next_claims, removes}

-- ---- claims

-- The claims that come next of a claim that isn't held.
abbrev pub claims_after : Claimed → Option ClaimsStatus
claims_after Held = None
claims_after (Taken namespace) = None
claims_after (Next next) = Some next

-- The object of these claims, over what stands there.
abbrev pub claims_object : View → Option Object → ClaimsStatus → Object
claims_object view there next =
    record { body = []; status = status.Claims next; owner = claims_owner there; stamp = None; seen = view.length }

-- The write of a CSV's next claim, if it has one.
abbrev pub claim_of : View → Csv → Option Write
claim_of view csv =
    if is_in phase.Pending csv.status.phase && group_fits view csv
    then option_map (claims_write view) (next_claims view csv)
    else None

-- ---- deployments

-- The first write of a CSV's deployments.
abbrev pub deployment_of : View → Csv → Option Write
deployment_of view csv =
    if is_in phase.InstallReady csv.status.phase
    then slice_get (filter_map (deployment_write view csv) csv.status.deployments) 0
    else None

-- ---- collection

-- It is a CSV in InstallReady that lists a deployment of this name.
abbrev pub lists : List ℕ → Csv → Bool
lists name csv = is_in phase.InstallReady csv.status.phase && list_any (same_text name) csv.status.deployments

-- The removal of the slot's Deployment, if it is collected.
abbrev pub collection_of : View → Key × Slot → Option Write
collection_of view entry = if is_collected view entry then Some (removes entry.0 entry.1.version) else None
