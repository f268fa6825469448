-- How the statuses of catalogs, subscriptions, CSVs and deployments are spelled, and what a step makes.
use Rattle.std.specs.Prelude.{Bool, true, ℕ, Option, List, [], ◌∷◌}
use Rattle.payloads.specs.Form.{Form, ◌⊗◌, seen_as, plain, read_variant, bare, holding, signed_form, truth_form, text_form, name_form, list_form, option_form}
use Rattle.cluster_objects.specs.declared.statuses.CatalogStatus.{CatalogStatus}
use Rattle.cluster_objects.specs.declared.statuses.SubSpec.{SubSpec}
use Rattle.cluster_objects.specs.declared.statuses.SubState.{SubState}
use Rattle.cluster_objects.specs.declared.statuses.SubState.TheVariants as state
use Rattle.cluster_objects.specs.declared.statuses.SubscriptionStatus.{SubscriptionStatus}
use Rattle.cluster_objects.specs.declared.statuses.Crd.{Crd}
use Rattle.cluster_objects.specs.declared.statuses.CsvPhase.{CsvPhase}
use Rattle.cluster_objects.specs.declared.statuses.CsvPhase.TheVariants as phase
use Rattle.cluster_objects.specs.declared.statuses.CsvStatus.{CsvStatus}
use Rattle.cluster_objects.specs.declared.statuses.Readiness.{Readiness}
use Rattle.cluster_objects.specs.declared.statuses.Readiness.TheVariants as readiness
use Rattle.cluster_objects.specs.declared.statuses.Made.{Made}
use Rattle.cluster_objects.specs.declared.statuses.Made.TheVariants as made

unfoldable pub catalog_form : Form CatalogStatus
catalog_form = seen_as signed_form (λ z. record { priority = z }) (λ c. c.priority)

unfoldable pub sub_spec_form : Form SubSpec
sub_spec_form = seen_as (name_form ⊗ option_form name_form ⊗ name_form ⊗ name_form ⊗ option_form name_form ⊗ truth_form)
    (λ p. record { «package» = p.0; channel = p.1.0; source = p.1.1.0; source_namespace = p.1.1.1.0; starting = p.1.1.1.1.0; manual = p.1.1.1.1.1 })
    (λ s. (s.package, (s.channel, (s.source, (s.source_namespace, (s.starting, s.manual))))))

abbrev pub sub_state_number : SubState → ℕ
sub_state_number state.Nothing = 0
sub_state_number state.UpgradeAvailable = 1
sub_state_number state.UpgradePending = 2
sub_state_number state.AtLatestKnown = 3

abbrev pub sub_states : List SubState
sub_states = state.Nothing ∷ state.UpgradeAvailable ∷ state.UpgradePending ∷ state.AtLatestKnown ∷ []

unfoldable pub sub_state_form : Form SubState
sub_state_form = plain sub_state_number sub_states

unfoldable pub subscription_form : Form SubscriptionStatus
subscription_form = seen_as (sub_spec_form ⊗ sub_state_form) (λ p. record { spec = p.0; state = p.1 }) (λ s. (s.spec, s.state))

unfoldable pub crd_form : Form Crd
crd_form = seen_as (name_form ⊗ name_form ⊗ name_form)
    (λ p. record { name = p.0; version = p.1.0; kind = p.1.1 })
    (λ c. (c.name, (c.version, c.kind)))

abbrev pub csv_phase_number : CsvPhase → ℕ
csv_phase_number phase.Nothing = 0
csv_phase_number phase.Pending = 1
csv_phase_number phase.InstallReady = 2
csv_phase_number phase.Installing = 3
csv_phase_number phase.Succeeded = 4
csv_phase_number phase.Failed = 5
csv_phase_number phase.Replacing = 6
csv_phase_number phase.Deleting = 7

abbrev pub csv_phases : List CsvPhase
csv_phases = phase.Nothing ∷ phase.Pending ∷ phase.InstallReady ∷ phase.Installing ∷ phase.Succeeded ∷ phase.Failed ∷ phase.Replacing ∷ phase.Deleting ∷ []

unfoldable pub csv_phase_form : Form CsvPhase
csv_phase_form = plain csv_phase_number csv_phases

unfoldable pub csv_form : Form CsvStatus
csv_form = seen_as (option_form name_form ⊗ text_form ⊗ list_form crd_form ⊗ list_form crd_form ⊗ list_form name_form ⊗ option_form name_form ⊗ csv_phase_form)
    (λ p. record { «package» = p.0; version = p.1.0; owned = p.1.1.0; needed = p.1.1.1.0; deployments = p.1.1.1.1.0; replaces = p.1.1.1.1.1.0; phase = p.1.1.1.1.1.1 })
    (λ s. (s.package, (s.version, (s.owned, (s.needed, (s.deployments, (s.replaces, s.phase)))))))

abbrev pub readiness_number : Readiness → ℕ
readiness_number readiness.Waiting = 0
readiness_number readiness.Ready = 1
readiness_number readiness.Failed = 2

abbrev pub readinesses : List Readiness
readinesses = readiness.Waiting ∷ readiness.Ready ∷ readiness.Failed ∷ []

unfoldable pub readiness_form : Form Readiness
readiness_form = plain readiness_number readinesses

abbrev pub spell_made : Made → List ℕ
spell_made made.Plain = 0 ∷ []
spell_made (made.Subscription s) = 1 ∷ subscription_form.spell s
spell_made (made.Csv s) = 2 ∷ csv_form.spell s
spell_made (made.Deployment r) = 3 ∷ readiness_form.spell r

abbrev pub fits_made : Made → Bool
fits_made made.Plain = true
fits_made (made.Subscription s) = subscription_form.fits s
fits_made (made.Csv s) = csv_form.fits s
fits_made (made.Deployment r) = readiness_form.fits r

abbrev pub made_readings : List (List ℕ → Option (Made × List ℕ))
made_readings =
    bare made.Plain
    ∷ holding subscription_form (λ s. made.Subscription s)
    ∷ holding csv_form (λ s. made.Csv s)
    ∷ holding readiness_form (λ r. made.Deployment r)
    ∷ []

unfoldable pub made_form : Form Made
made_form = record { spell = spell_made; read = read_variant made_readings; fits = fits_made }
