-- How resolutions are spelled, with their basis and their outcome.
use Rattle.std.specs.Prelude.{Bool, true, ℕ, Option, List, [], ◌∷◌}
use Rattle.payloads.specs.Form.{Form, ◌⊗◌, seen_as, read_variant, bare, holding, number_form, short_form, signed_form, truth_form, bytes_form, text_form, name_form, list_form, option_form}
use Rattle.payloads.specs.Keys.{gvk_form}
use Rattle.payloads.specs.Statuses.{sub_spec_form}
use Rattle.cluster_objects.specs.declared.resolutions.Tip.{Tip}
use Rattle.cluster_objects.specs.declared.resolutions.Seen.{Seen}
use Rattle.cluster_objects.specs.declared.resolutions.Basis.{Basis}
use Rattle.cluster_objects.specs.declared.resolutions.Taken.{Taken}
use Rattle.cluster_objects.specs.declared.resolutions.Outcome.{Outcome}
use Rattle.cluster_objects.specs.declared.resolutions.Outcome.TheVariants as outcome
use Rattle.cluster_objects.specs.declared.resolutions.ResolutionStatus.{ResolutionStatus}

unfoldable pub tip_form : Form Tip
tip_form = seen_as (name_form ⊗ option_form name_form ⊗ text_form ⊗ list_form gvk_form ⊗ truth_form)
    (λ p. record { name = p.0; «package» = p.1.0; version = p.1.1.0; kinds = p.1.1.1.0; succeeded = p.1.1.1.1 })
    (λ t. (t.name, (t.package, (t.version, (t.kinds, t.succeeded)))))

unfoldable pub seen_form : Form Seen
seen_form = seen_as (name_form ⊗ name_form ⊗ signed_form ⊗ number_form)
    (λ p. record { namespace = p.0; name = p.1.0; priority = p.1.1.0; version = p.1.1.1 })
    (λ s. (s.namespace, (s.name, (s.priority, s.version))))

unfoldable pub basis_form : Form Basis
basis_form = seen_as (list_form (name_form ⊗ sub_spec_form) ⊗ list_form tip_form ⊗ list_form seen_form)
    (λ p. record { subscriptions = p.0; tips = p.1.0; catalogs = p.1.1 })
    (λ b. (b.subscriptions, (b.tips, b.catalogs)))

unfoldable pub taken_form : Form Taken
taken_form = seen_as (name_form ⊗ name_form ⊗ name_form ⊗ name_form ⊗ name_form ⊗ text_form ⊗ option_form name_form)
    (λ p. record { catalog_namespace = p.0; catalog = p.1.0; «package» = p.1.1.0; channel = p.1.1.1.0; name = p.1.1.1.1.0; version = p.1.1.1.1.1.0; replaces = p.1.1.1.1.1.1 })
    (λ t. (t.catalog_namespace, (t.catalog, (t.package, (t.channel, (t.name, (t.version, t.replaces)))))))

abbrev pub spell_outcome : Outcome → List ℕ
spell_outcome outcome.Nothing = 0 ∷ []
spell_outcome (outcome.Chosen walk taken) = 1 ∷ (list_form short_form ⊗ list_form taken_form).spell (walk, taken)
spell_outcome outcome.Refused = 2 ∷ []
spell_outcome (outcome.Undecided lemmas) = 3 ∷ short_form.spell lemmas
spell_outcome (outcome.TooLarge count) = 4 ∷ number_form.spell count

abbrev pub fits_outcome : Outcome → Bool
fits_outcome outcome.Nothing = true
fits_outcome (outcome.Chosen walk taken) = (list_form short_form ⊗ list_form taken_form).fits (walk, taken)
fits_outcome outcome.Refused = true
fits_outcome (outcome.Undecided lemmas) = short_form.fits lemmas
fits_outcome (outcome.TooLarge count) = number_form.fits count

abbrev pub outcome_readings : List (List ℕ → Option (Outcome × List ℕ))
outcome_readings =
    bare outcome.Nothing
    ∷ holding (list_form short_form ⊗ list_form taken_form) (λ p. outcome.Chosen p.0 p.1)
    ∷ bare outcome.Refused
    ∷ holding short_form (λ lemmas. outcome.Undecided lemmas)
    ∷ holding number_form (λ count. outcome.TooLarge count)
    ∷ []

unfoldable pub outcome_form : Form Outcome
outcome_form = record { spell = spell_outcome; read = read_variant outcome_readings; fits = fits_outcome }

unfoldable pub resolution_form : Form ResolutionStatus
resolution_form = seen_as (number_form ⊗ short_form ⊗ truth_form ⊗ basis_form ⊗ outcome_form ⊗ bytes_form)
    (λ p. record { number = p.0; budget = p.1.0; again = p.1.1.0; basis = p.1.1.1.0; outcome = p.1.1.1.1.0; certificate = p.1.1.1.1.1 })
    (λ s. (s.number, (s.budget, (s.again, (s.basis, (s.outcome, s.certificate))))))
