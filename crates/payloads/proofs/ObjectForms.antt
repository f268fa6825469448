-- Objects, writes, slots and bases have forms.
use Rattle.std.proofs.Common.{◌≡◌, true, ℕ, List, ◌++◌, Some, refl}
use Rattle.payloads.specs.Form.{read_variant}
use Rattle.payloads.specs.Laws.{IsForm}
use Rattle.payloads.specs.Objects.{status_form, status_readings, spell_status, fits_status, object_form, writer_form, writer_number, writers, write_form}
use Rattle.payloads.specs.Slots.{slot_form, base_form}
use Rattle.cluster_objects.specs.declared.objects.Status.{Status}
use Rattle.cluster_objects.specs.declared.objects.Status.TheVariants as status
use Rattle.cluster_objects.specs.declared.objects.Writer.TheVariants as writer
use Rattle.payloads.proofs.Combinators.{pair_is_form, seen_as_is_form, plain_is_form, option_is_form, variants_only, bare_only, holding_only, holding_again}
use Rattle.payloads.proofs.Leaves.{number_is_form, bytes_is_form, name_is_form, list_is_form}
use Rattle.payloads.proofs.KeyForms.{key_is_form, stamp_is_form}
use Rattle.payloads.proofs.StatusForms.{catalog_is_form, subscription_is_form, csv_is_form, readiness_is_form}
use Rattle.payloads.proofs.PlanForms.{plan_is_form}
use Rattle.payloads.proofs.ResolutionForms.{resolution_is_form}
use Rattle.payloads.proofs.GroupForms.{strategy_is_form, group_is_form, claims_is_form, lease_is_form}

pub status_is_form : IsForm status_form
unfolding status_form
status_is_form = record {
  again = again;
  only = variants_only fits_status spell_status status_readings (
    bare_only fits_status spell_status 0 status.Plain refl refl,
    (
      holding_only fits_status spell_status 1 (λ s. status.Catalog s) catalog_is_form (λ s. refl) (λ s. refl),
      (
        holding_only fits_status spell_status 2 (λ s. status.Subscription s) subscription_is_form (λ s. refl) (λ s. refl),
        (
          holding_only fits_status spell_status 3 (λ s. status.Csv s) csv_is_form (λ s. refl) (λ s. refl),
          (
            holding_only fits_status spell_status 4 (λ r. status.Deployment r) readiness_is_form (λ r. refl) (λ r. refl),
            (
              holding_only fits_status spell_status 5 (λ s. status.Plan s) plan_is_form (λ s. refl) (λ s. refl),
              (
                holding_only fits_status spell_status 6 (λ s. status.Resolution s) resolution_is_form (λ s. refl) (λ s. refl),
                (
                  holding_only fits_status spell_status 7 (λ s. status.Strategy s) strategy_is_form (λ s. refl) (λ s. refl),
                  (
                    holding_only fits_status spell_status 8 (λ s. status.Group s) group_is_form (λ s. refl) (λ s. refl),
                    (
                      holding_only fits_status spell_status 9 (λ s. status.Claims s) claims_is_form (λ s. refl) (λ s. refl),
                      (holding_only fits_status spell_status 10 (λ s. status.Lease s) lease_is_form (λ s. refl) (λ s. refl), tt),
                    ),
                  ),
                ),
              ),
            ),
          ),
        ),
      ),
    ),
  );
}
  where
    again : (x : Status) (rest : List ℕ) → fits_status x ≡ true → read_variant status_readings (spell_status x ++ rest) ≡ Some (x, rest)
    again status.Plain rest fits = refl
    again (status.Catalog s) rest fits = holding_again (λ y. status.Catalog y) catalog_is_form s rest fits
    again (status.Subscription s) rest fits = holding_again (λ y. status.Subscription y) subscription_is_form s rest fits
    again (status.Csv s) rest fits = holding_again (λ y. status.Csv y) csv_is_form s rest fits
    again (status.Deployment r) rest fits = holding_again (λ y. status.Deployment y) readiness_is_form r rest fits
    again (status.Plan s) rest fits = holding_again (λ y. status.Plan y) plan_is_form s rest fits
    again (status.Resolution s) rest fits = holding_again (λ y. status.Resolution y) resolution_is_form s rest fits
    again (status.Strategy s) rest fits = holding_again (λ y. status.Strategy y) strategy_is_form s rest fits
    again (status.Group s) rest fits = holding_again (λ y. status.Group y) group_is_form s rest fits
    again (status.Claims s) rest fits = holding_again (λ y. status.Claims y) claims_is_form s rest fits
    again (status.Lease s) rest fits = holding_again (λ y. status.Lease y) lease_is_form s rest fits

pub object_is_form : IsForm object_form
unfolding object_form
object_is_form =
    seen_as_is_form _ _ (λ y. refl) (λ x. refl)
    (pair_is_form bytes_is_form (pair_is_form status_is_form (pair_is_form (option_is_form name_is_form) (pair_is_form (option_is_form stamp_is_form) number_is_form))))

pub writer_is_form : IsForm writer_form
unfolding writer_form
writer_is_form =
    plain_is_form writer_number writers
    (elim [ writer.User ↦ refl | writer.Resolver ↦ refl | writer.Installer ↦ refl | writer.Phases ↦ refl ])
    (refl, (refl, (refl, (refl, tt))))

pub write_is_form : IsForm write_form
unfolding write_form
write_is_form = seen_as_is_form _ _ (λ y. refl) (λ x. refl) (pair_is_form writer_is_form (pair_is_form number_is_form (pair_is_form key_is_form (option_is_form object_is_form))))

pub slot_is_form : IsForm slot_form
unfolding slot_form
slot_is_form = seen_as_is_form _ _ (λ y. refl) (λ x. refl) (pair_is_form number_is_form (pair_is_form (option_is_form object_is_form) (list_is_form stamp_is_form)))

pub base_is_form : IsForm base_form
unfolding base_form
base_is_form = seen_as_is_form _ _ (λ y. refl) (λ x. refl) (pair_is_form number_is_form (list_is_form (pair_is_form key_is_form slot_is_form)))
