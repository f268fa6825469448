-- The edges of a CSV's phase.
use Rattle.std.specs.Prelude.{◌≡◌, Bool, true, ◌&&◌, not, List, [], ◌∷◌, Option, Some, None, if◌then◌else◌}
use Rattle.std.specs.List.{find}
use Rattle.cluster_objects.specs.declared.keys.Key.{Key}
use Rattle.cluster_objects.specs.declared.statuses.CsvPhase.{CsvPhase}
use Rattle.cluster_objects.specs.declared.statuses.CsvPhase.TheVariants as phase
use Rattle.cluster_history.specs.History.{slot_in}
use Rattle.cluster_history.specs.Views.{View}
use Rattle.view_basis.specs.Tips.{is_replaced}
use Rattle.csv_phases.specs.Conditions.{crds_are_there, deployment_is_lost, deployments_are_ready, deployments_are_there, group_fits, is_ready, is_succeeded_above, owns_failed}
use Rattle.csv_phases.specs.Csvs.{Csv, csv_entry, is_current, is_in}
use Rattle.csv_phases.specs.declared.edges.Edge.{Edge}
use Rattle.csv_phases.specs.declared.edges.Edge.TheVariants.{Begin, Ready, Unready, Misfit, Deploy, Succeed, InstallFailed, CrdLost, DeploymentLost, Recover, Replaced, Retire, Remove}

-- A row of the table: the phases that it leads from, the phase to which it leads, or None where it removes, and where it holds.
pub record Row : Type 0 where
  pub from : CsvPhase → Bool
  pub to : Option CsvPhase
  pub holds : Bool

abbrev pub leads : (CsvPhase → Bool) → CsvPhase → Bool → Row
leads from to holds = record { from = from; to = Some to; holds = holds }

-- The table.
abbrev pub row : View → Csv → Edge → Row
row view csv Begin = leads (is_in phase.Nothing) phase.Pending true
row view csv Ready = leads (is_in phase.Pending) phase.InstallReady (is_ready view csv)
row view csv Unready = leads (is_in phase.InstallReady) phase.Pending (not (is_ready view csv))
row view csv Misfit = leads (is_in phase.Pending) phase.Failed (not (group_fits view csv))
row view csv Deploy = leads (is_in phase.InstallReady) phase.Installing (deployments_are_there view csv)
row view csv Succeed = leads (is_in phase.Installing) phase.Succeeded (deployments_are_ready view csv)
row view csv InstallFailed = leads (is_in phase.Installing) phase.Failed (deployment_is_lost view csv)
row view csv CrdLost = leads (is_in phase.Succeeded) phase.Pending (not (crds_are_there view csv))
row view csv DeploymentLost = leads (is_in phase.Succeeded) phase.Failed (deployment_is_lost view csv)
row view csv Recover =
    leads (is_in phase.Failed) phase.Pending (crds_are_there view csv && not (owns_failed view csv) && group_fits view csv)
row view csv Replaced = leads is_current phase.Replacing (is_replaced view csv.key.name)
row view csv Retire = leads (is_in phase.Replacing) phase.Deleting (is_succeeded_above view csv)
row view csv Remove = record { from = is_in phase.Deleting; to = None; holds = true }

-- The edge leads on from where the CSV stands.
abbrev pub applies : View → Csv → Edge → Bool
applies view csv edge = let r = row view csv edge in r.from csv.status.phase && r.holds

-- The edges by their numbers, but for the removal.
abbrev pub moves : List Edge
moves =
    Begin ∷ Ready ∷ Unready ∷ Misfit ∷ Deploy ∷ Succeed ∷ InstallFailed ∷ CrdLost ∷ DeploymentLost ∷ Recover ∷ Replaced ∷ Retire ∷ []

-- The one that a CSV takes: `Replaced` where it applies, or else that of the lowest number.
abbrev pub chosen : View → Csv → Option Edge
chosen view csv = if applies view csv Replaced then Some Replaced else find (applies view csv) moves

-- The CSV that stands at a key in the view, if one of its namespace does.
abbrev pub csv_there : View → Key → Option Csv
csv_there view key = csv_entry view (key, slot_in view.slots key)

-- From the old phase of the CSV at the key some edge leads to the new one in this view, or removes the CSV where there is no new one.
pub record IsCsvEdge (view : View) (key : Key) (old : CsvPhase) (new : Option CsvPhase) : Type 0 where
  pub csv : Csv
  pub stands : csv_there view key ≡ Some csv
  pub from : csv.status.phase ≡ old
  pub edge : Edge
  pub holds : applies view csv edge ≡ true
  pub to : (row view csv edge).to ≡ new
