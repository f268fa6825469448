-- What is so of the edges and of the writes in every view.
use Rattle.std.specs.Prelude.{◌≡◌, ℕ, true, false, [], Some, None, slice_get}
use Rattle.cluster_objects.specs.Kinds.{claims_at, csv_at, is_catalog_key, is_csv_key, is_plan_key, is_resolution_key, subscription_at}
use Rattle.cluster_objects.specs.Stamps.{stamps_of}
use Rattle.cluster_objects.specs.declared.groups.ClaimsStatus.{ClaimsStatus}
use Rattle.cluster_objects.specs.declared.objects.Write.{Write}
use Rattle.cluster_objects.specs.declared.objects.Writer.TheVariants as writer
use Rattle.cluster_objects.specs.declared.statuses.CsvPhase.{CsvPhase}
use Rattle.cluster_objects.specs.declared.statuses.CsvPhase.TheVariants as phase
use Rattle.cluster_objects.specs.declared.statuses.CsvStatus.{CsvStatus}
use Rattle.cluster_objects.specs.declared.statuses.SubState.{SubState}
use Rattle.cluster_objects.specs.declared.statuses.SubscriptionStatus.{SubscriptionStatus}
use Rattle.cluster_history.specs.History.{IsInOrder}
use Rattle.cluster_history.specs.Views.{View}
use Rattle.operator_groups.specs.Claiming.{AreDisjoint}
use Rattle.csv_phases.specs.Conditions.{claims, deployment_is_lost, deployments_are_ready, group_fits, is_ready}
use Rattle.csv_phases.specs.Csvs.{Csv, is_in}
use Rattle.csv_phases.specs.Edges.{IsCsvEdge, applies, chosen, row}
use Rattle.csv_phases.specs.Phases.{edge_writes, phases_writes}
use Rattle.csv_phases.specs.States.{IsSubscriptionEdge}
use Rattle.csv_phases.specs.declared.edges.Edge.{Edge}

-- ---- edges

-- An edge that applies leads to another phase than the CSV is in.
abbrev pub EdgesChangePhases : Type 0
EdgesChangePhases =
    (view : View) (csv : Csv) (edge : Edge) (new : CsvPhase) → applies view csv edge ≡ true → (row view csv edge).to ≡ Some new
    → is_in new csv.status.phase ≡ false

-- The chosen edge applies.
abbrev pub ChosenApplies : Type 0
ChosenApplies = (view : View) (csv : Csv) (edge : Edge) → chosen view csv ≡ Some edge → applies view csv edge ≡ true

-- None is chosen where the CSV is Deleting.
abbrev pub NoneFromDeleting : Type 0
NoneFromDeleting = (view : View) (csv : Csv) → csv.status.phase ≡ phase.Deleting → chosen view csv ≡ None

-- Where all deployments are ready none is missing or Failed, so an installation either succeeds or fails.
abbrev pub ReadyIsNotLost : Type 0
ReadyIsNotLost = (view : View) (csv : Csv) → deployments_are_ready view csv ≡ true → deployment_is_lost view csv ≡ false

-- Where a CSV is ready its group fits, so from Pending it either goes on or fails.
abbrev pub ReadyFits : Type 0
ReadyFits = (view : View) (csv : Csv) → is_ready view csv ≡ true → group_fits view csv ≡ true

-- ---- writes

-- The write is one of the role phases' in the view.
abbrev pub IsPhasesWrite : View → Write → Type 0
IsPhasesWrite view w = (i : ℕ) × (slice_get (phases_writes view) i ≡ Some w)

-- The write has no stamp, and is of no InstallPlan, Resolution or CatalogSource.
pub record IsAside (w : Write) : Type 0 where
  pub bare : stamps_of w.object ≡ []
  pub plan : is_plan_key w.key ≡ false
  pub resolution : is_resolution_key w.key ≡ false
  pub catalog : is_catalog_key w.key ≡ false

-- Each of its writes is by the role phases, and aside.
abbrev pub WritesAreAside : Type 0
WritesAreAside = (view : View) (w : Write) → IsPhasesWrite view w → (w.by ≡ writer.Phases) × IsAside w

-- Each that puts a CSV leads the CSV that stands there along an edge to its new phase.
abbrev pub PutCsvsTakeEdges : Type 0
PutCsvsTakeEdges =
    (view : View) (w : Write) (new : CsvStatus) → IsInOrder view.slots → IsPhasesWrite view w
    → csv_at w.key w.object ≡ Some new → (old : CsvPhase) × IsCsvEdge view w.key old (Some new.phase)

-- Each that removes at a CSV's key removes a CSV in Deleting, by an edge.
abbrev pub RemovedCsvsTakeEdges : Type 0
RemovedCsvsTakeEdges =
    (view : View) (w : Write) → IsInOrder view.slots → IsPhasesWrite view w → w.object ≡ None → is_csv_key w.key ≡ true
    → IsCsvEdge view w.key phase.Deleting None

-- Each that puts a Subscription leads the one that stands there along an edge to its new state.
abbrev pub SubscriptionsTakeEdges : Type 0
SubscriptionsTakeEdges =
    (view : View) (w : Write) (new : SubscriptionStatus) → IsInOrder view.slots → IsPhasesWrite view w
    → subscription_at w.key w.object ≡ Some new → (old : SubState) × IsSubscriptionEdge view w.key old new.state

-- The edges have at most one write for each key.
abbrev pub OneEdgeEach : Type 0
OneEdgeEach =
    (view : View) (i j : ℕ) (v w : Write) → IsInOrder view.slots → slice_get (edge_writes view) i ≡ Some v
    → slice_get (edge_writes view) j ≡ Some w → v.key ≡ w.key → i ≡ j

-- Each that puts claims leaves them disjoint, where those of the view are.
abbrev pub WrittenClaimsAreDisjoint : Type 0
WrittenClaimsAreDisjoint =
    (view : View) (w : Write) (new : ClaimsStatus) → IsPhasesWrite view w → claims_at w.key w.object ≡ Some new
    → AreDisjoint (claims view) → AreDisjoint new.entries
