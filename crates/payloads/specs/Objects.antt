-- How objects and the writes that put and remove them are spelled.
use Rattle.std.specs.Prelude.{Bool, true, ℕ, Option, List, [], ◌∷◌}
use Rattle.payloads.specs.Form.{Form, ◌⊗◌, seen_as, plain, read_variant, bare, holding, number_form, bytes_form, name_form, option_form}
use Rattle.payloads.specs.Keys.{key_form, stamp_form}
use Rattle.payloads.specs.Statuses.{catalog_form, subscription_form, csv_form, readiness_form}
use Rattle.payloads.specs.Plans.{plan_form}
use Rattle.payloads.specs.Resolutions.{resolution_form}
use Rattle.payloads.specs.Groups.{strategy_form, group_form, claims_form, lease_form}
use Rattle.cluster_objects.specs.declared.objects.Status.{Status}
use Rattle.cluster_objects.specs.declared.objects.Status.TheVariants as status
use Rattle.cluster_objects.specs.declared.objects.Object.{Object}
use Rattle.cluster_objects.specs.declared.objects.Writer.{Writer}
use Rattle.cluster_objects.specs.declared.objects.Writer.TheVariants as writer
use Rattle.cluster_objects.specs.declared.objects.Write.{Write}

abbrev pub spell_status : Status → List ℕ
spell_status status.Plain = 0 ∷ []
spell_status (status.Catalog s) = 1 ∷ catalog_form.spell s
spell_status (status.Subscription s) = 2 ∷ subscription_form.spell s
spell_status (status.Csv s) = 3 ∷ csv_form.spell s
spell_status (status.Deployment r) = 4 ∷ readiness_form.spell r
spell_status (status.Plan s) = 5 ∷ plan_form.spell s
spell_status (status.Resolution s) = 6 ∷ resolution_form.spell s
spell_status (status.Strategy s) = 7 ∷ strategy_form.spell s
spell_status (status.Group s) = 8 ∷ group_form.spell s
spell_status (status.Claims s) = 9 ∷ claims_form.spell s
spell_status (status.Lease s) = 10 ∷ lease_form.spell s

abbrev pub fits_status : Status → Bool
fits_status status.Plain = true
fits_status (status.Catalog s) = catalog_form.fits s
fits_status (status.Subscription s) = subscription_form.fits s
fits_status (status.Csv s) = csv_form.fits s
fits_status (status.Deployment r) = readiness_form.fits r
fits_status (status.Plan s) = plan_form.fits s
fits_status (status.Resolution s) = resolution_form.fits s
fits_status (status.Strategy s) = strategy_form.fits s
fits_status (status.Group s) = group_form.fits s
fits_status (status.Claims s) = claims_form.fits s
fits_status (status.Lease s) = lease_form.fits s

abbrev pub status_readings : List (List ℕ → Option (Status × List ℕ))
status_readings =
    bare status.Plain
    ∷ holding catalog_form (λ s. status.Catalog s)
    ∷ holding subscription_form (λ s. status.Subscription s)
    ∷ holding csv_form (λ s. status.Csv s)
    ∷ holding readiness_form (λ r. status.Deployment r)
    ∷ holding plan_form (λ s. status.Plan s)
    ∷ holding resolution_form (λ s. status.Resolution s)
    ∷ holding strategy_form (λ s. status.Strategy s)
    ∷ holding group_form (λ s. status.Group s)
    ∷ holding claims_form (λ s. status.Claims s)
    ∷ holding lease_form (λ s. status.Lease s)
    ∷ []

unfoldable pub status_form : Form Status
status_form = record { spell = spell_status; read = read_variant status_readings; fits = fits_status }

unfoldable pub object_form : Form Object
object_form = seen_as (bytes_form ⊗ status_form ⊗ option_form name_form ⊗ option_form stamp_form ⊗ number_form)
    (λ p. record { body = p.0; status = p.1.0; owner = p.1.1.0; stamp = p.1.1.1.0; seen = p.1.1.1.1 })
    (λ o. (o.body, (o.status, (o.owner, (o.stamp, o.seen)))))

abbrev pub writer_number : Writer → ℕ
writer_number writer.User = 0
writer_number writer.Resolver = 1
writer_number writer.Installer = 2
writer_number writer.Phases = 3

abbrev pub writers : List Writer
writers = writer.User ∷ writer.Resolver ∷ writer.Installer ∷ writer.Phases ∷ []

unfoldable pub writer_form : Form Writer
writer_form = plain writer_number writers

unfoldable pub write_form : Form Write
write_form = seen_as (writer_form ⊗ number_form ⊗ key_form ⊗ option_form object_form)
    (λ p. record { by = p.0; expect = p.1.0; key = p.1.1.0; object = p.1.1.1 })
    (λ w. (w.by, (w.expect, (w.key, w.object))))
