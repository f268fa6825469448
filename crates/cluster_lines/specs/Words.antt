-- The word that is printed of an object: its phase, its state, how far it is, its outcome, or what it is.
use Rattle.std.specs.Prelude.{ℕ, List, codes}
use Rattle.cluster_objects.specs.declared.objects.Status.{Status}
use Rattle.cluster_objects.specs.declared.objects.Status.TheVariants as status
use Rattle.cluster_objects.specs.declared.plans.PlanPhase.{PlanPhase}
use Rattle.cluster_objects.specs.declared.plans.PlanPhase.TheVariants as plan
use Rattle.cluster_objects.specs.declared.resolutions.Outcome.{Outcome}
use Rattle.cluster_objects.specs.declared.resolutions.Outcome.TheVariants as outcome
use Rattle.cluster_objects.specs.declared.statuses.CsvPhase.{CsvPhase}
use Rattle.cluster_objects.specs.declared.statuses.CsvPhase.TheVariants as csv
use Rattle.cluster_objects.specs.declared.statuses.Readiness.{Readiness}
use Rattle.cluster_objects.specs.declared.statuses.Readiness.TheVariants as readiness
use Rattle.cluster_objects.specs.declared.statuses.SubState.{SubState}
use Rattle.cluster_objects.specs.declared.statuses.SubState.TheVariants as subscription

abbrev pub state_word : SubState → List ℕ
state_word subscription.Nothing = codes "None"
state_word subscription.UpgradeAvailable = codes "UpgradeAvailable"
state_word subscription.UpgradePending = codes "UpgradePending"
state_word subscription.AtLatestKnown = codes "AtLatestKnown"

abbrev pub csv_word : CsvPhase → List ℕ
csv_word csv.Nothing = codes "None"
csv_word csv.Pending = codes "Pending"
csv_word csv.InstallReady = codes "InstallReady"
csv_word csv.Installing = codes "Installing"
csv_word csv.Succeeded = codes "Succeeded"
csv_word csv.Failed = codes "Failed"
csv_word csv.Replacing = codes "Replacing"
csv_word csv.Deleting = codes "Deleting"

abbrev pub readiness_word : Readiness → List ℕ
readiness_word readiness.Waiting = codes "Waiting"
readiness_word readiness.Ready = codes "Ready"
readiness_word readiness.Failed = codes "Failed"

abbrev pub plan_word : PlanPhase → List ℕ
plan_word plan.Nothing = codes "None"
plan_word plan.Planning = codes "Planning"
plan_word plan.RequiresApproval = codes "RequiresApproval"
plan_word plan.Installing = codes "Installing"
plan_word plan.Complete = codes "Complete"
plan_word plan.Failed = codes "Failed"

abbrev pub outcome_word : Outcome → List ℕ
outcome_word outcome.Nothing = codes "Nothing"
outcome_word (outcome.Chosen walk taken) = codes "Chosen"
outcome_word outcome.Refused = codes "Refused"
outcome_word (outcome.Undecided lemmas) = codes "Undecided"
outcome_word (outcome.TooLarge count) = codes "TooLarge"

abbrev pub status_word : Status → List ℕ
status_word status.Plain = codes "Plain"
status_word (status.Catalog catalog) = codes "Catalog"
status_word (status.Subscription subscription) = state_word subscription.state
status_word (status.Csv csv) = csv_word csv.phase
status_word (status.Deployment readiness) = readiness_word readiness
status_word (status.Plan plan) = plan_word plan.phase
status_word (status.Resolution resolution) = outcome_word resolution.outcome
status_word (status.Strategy strategy) = codes "Strategy"
status_word (status.Group group) = codes "Group"
status_word (status.Claims claims) = codes "Claims"
status_word (status.Lease lease) = codes "Lease"
