-- The statuses of catalogs, subscriptions, CSVs and deployments, and what a step makes, have forms.
use Rattle.std.proofs.Common.{◌≡◌, true, ℕ, List, ◌++◌, Some, refl}
use Rattle.payloads.specs.Form.{read_variant}
use Rattle.payloads.specs.Laws.{IsForm}
use Rattle.payloads.specs.Statuses.{catalog_form, sub_spec_form, sub_state_form, sub_state_number, sub_states, subscription_form, crd_form, csv_phase_form, csv_phase_number, csv_phases, csv_form, readiness_form, readiness_number, readinesses, made_form, made_readings, spell_made, fits_made}
use Rattle.cluster_objects.specs.declared.statuses.SubState.TheVariants as state
use Rattle.cluster_objects.specs.declared.statuses.CsvPhase.TheVariants as phase
use Rattle.cluster_objects.specs.declared.statuses.Readiness.TheVariants as readiness
use Rattle.cluster_objects.specs.declared.statuses.Made.{Made}
use Rattle.cluster_objects.specs.declared.statuses.Made.TheVariants as made
use Rattle.payloads.proofs.Combinators.{pair_is_form, seen_as_is_form, plain_is_form, option_is_form, variants_only, bare_only, holding_only, holding_again}
use Rattle.payloads.proofs.Leaves.{signed_is_form, truth_is_form, text_is_form, name_is_form, list_is_form}

pub catalog_is_form : IsForm catalog_form
unfolding catalog_form
catalog_is_form = seen_as_is_form _ _ (λ y. refl) (λ x. refl) signed_is_form

pub sub_spec_is_form : IsForm sub_spec_form
unfolding sub_spec_form
sub_spec_is_form =
    seen_as_is_form _ _ (λ y. refl) (λ x. refl)
    (pair_is_form name_is_form (pair_is_form (option_is_form name_is_form) (pair_is_form name_is_form (pair_is_form name_is_form (pair_is_form (option_is_form name_is_form) truth_is_form)))))

pub sub_state_is_form : IsForm sub_state_form
unfolding sub_state_form
sub_state_is_form =
    plain_is_form sub_state_number sub_states
    (elim [ state.Nothing ↦ refl | state.UpgradeAvailable ↦ refl | state.UpgradePending ↦ refl | state.AtLatestKnown ↦ refl ])
    (refl, (refl, (refl, (refl, tt))))

pub subscription_is_form : IsForm subscription_form
unfolding subscription_form
subscription_is_form = seen_as_is_form _ _ (λ y. refl) (λ x. refl) (pair_is_form sub_spec_is_form sub_state_is_form)

pub crd_is_form : IsForm crd_form
unfolding crd_form
crd_is_form = seen_as_is_form _ _ (λ y. refl) (λ x. refl) (pair_is_form name_is_form (pair_is_form name_is_form name_is_form))

pub csv_phase_is_form : IsForm csv_phase_form
unfolding csv_phase_form
csv_phase_is_form =
    plain_is_form csv_phase_number csv_phases
    (elim [ phase.Nothing ↦ refl | phase.Pending ↦ refl | phase.InstallReady ↦ refl | phase.Installing ↦ refl | phase.Succeeded ↦ refl | phase.Failed ↦ refl | phase.Replacing ↦ refl | phase.Deleting ↦ refl ])
    (refl, (refl, (refl, (refl, (refl, (refl, (refl, (refl, tt))))))))

pub csv_is_form : IsForm csv_form
unfolding csv_form
csv_is_form =
    seen_as_is_form _ _ (λ y. refl) (λ x. refl)
    (pair_is_form (option_is_form name_is_form) (pair_is_form text_is_form (pair_is_form (list_is_form crd_is_form) (pair_is_form (list_is_form crd_is_form) (pair_is_form (list_is_form name_is_form) (pair_is_form (option_is_form name_is_form) csv_phase_is_form))))))

pub readiness_is_form : IsForm readiness_form
unfolding readiness_form
readiness_is_form =
    plain_is_form readiness_number readinesses
    (elim [ readiness.Waiting ↦ refl | readiness.Ready ↦ refl | readiness.Failed ↦ refl ])
    (refl, (refl, (refl, tt)))

pub made_is_form : IsForm made_form
unfolding made_form
made_is_form = record {
  again = again;
  only = variants_only fits_made spell_made made_readings (
    bare_only fits_made spell_made 0 made.Plain refl refl,
    (
      holding_only fits_made spell_made 1 (λ s. made.Subscription s) subscription_is_form (λ s. refl) (λ s. refl),
      (
        holding_only fits_made spell_made 2 (λ s. made.Csv s) csv_is_form (λ s. refl) (λ s. refl),
        (holding_only fits_made spell_made 3 (λ r. made.Deployment r) readiness_is_form (λ r. refl) (λ r. refl), tt),
      ),
    ),
  );
}
  where
    again : (x : Made) (rest : List ℕ) → fits_made x ≡ true → read_variant made_readings (spell_made x ++ rest) ≡ Some (x, rest)
    again made.Plain rest fits = refl
    again (made.Subscription s) rest fits = holding_again (λ s. made.Subscription s) subscription_is_form s rest fits
    again (made.Csv s) rest fits = holding_again (λ s. made.Csv s) csv_is_form s rest fits
    again (made.Deployment r) rest fits = holding_again (λ r. made.Deployment r) readiness_is_form r rest fits
