-- Resolutions have forms.
use Rattle.std.proofs.Common.{◌≡◌, true, ℕ, List, ◌++◌, Some, refl}
use Rattle.payloads.specs.Form.{read_variant}
use Rattle.payloads.specs.Laws.{IsForm}
use Rattle.payloads.specs.Resolutions.{tip_form, seen_form, basis_form, taken_form, outcome_form, outcome_readings, spell_outcome, fits_outcome, resolution_form}
use Rattle.cluster_objects.specs.declared.resolutions.Outcome.{Outcome}
use Rattle.cluster_objects.specs.declared.resolutions.Outcome.TheVariants as outcome
use Rattle.payloads.proofs.Combinators.{pair_is_form, seen_as_is_form, option_is_form, variants_only, bare_only, holding_only, holding_again}
use Rattle.payloads.proofs.Leaves.{number_is_form, short_is_form, signed_is_form, truth_is_form, bytes_is_form, text_is_form, name_is_form, list_is_form}
use Rattle.payloads.proofs.KeyForms.{gvk_is_form}
use Rattle.payloads.proofs.StatusForms.{sub_spec_is_form}

pub tip_is_form : IsForm tip_form
unfolding tip_form
tip_is_form =
    seen_as_is_form _ _ (λ y. refl) (λ x. refl)
    (pair_is_form name_is_form (pair_is_form (option_is_form name_is_form) (pair_is_form text_is_form (pair_is_form (list_is_form gvk_is_form) truth_is_form))))

pub seen_is_form : IsForm seen_form
unfolding seen_form
seen_is_form = seen_as_is_form _ _ (λ y. refl) (λ x. refl) (pair_is_form name_is_form (pair_is_form name_is_form (pair_is_form signed_is_form number_is_form)))

pub basis_is_form : IsForm basis_form
unfolding basis_form
basis_is_form =
    seen_as_is_form _ _ (λ y. refl) (λ x. refl)
    (pair_is_form (list_is_form (pair_is_form name_is_form sub_spec_is_form)) (pair_is_form (list_is_form tip_is_form) (list_is_form seen_is_form)))

pub taken_is_form : IsForm taken_form
unfolding taken_form
taken_is_form =
    seen_as_is_form _ _ (λ y. refl) (λ x. refl)
    (pair_is_form name_is_form (pair_is_form name_is_form (pair_is_form name_is_form (pair_is_form name_is_form (pair_is_form name_is_form (pair_is_form text_is_form (option_is_form name_is_form)))))))

pub outcome_is_form : IsForm outcome_form
unfolding outcome_form
outcome_is_form = record {
  again = again;
  only = variants_only fits_outcome spell_outcome outcome_readings (
    bare_only fits_outcome spell_outcome 0 outcome.Nothing refl refl,
    (
      holding_only fits_outcome spell_outcome 1 (λ p. outcome.Chosen p.0 p.1) (pair_is_form (list_is_form short_is_form) (list_is_form taken_is_form)) (λ p. refl) (λ p. refl),
      (
        bare_only fits_outcome spell_outcome 2 outcome.Refused refl refl,
        (
          holding_only fits_outcome spell_outcome 3 (λ lemmas. outcome.Undecided lemmas) short_is_form (λ y. refl) (λ y. refl),
          (holding_only fits_outcome spell_outcome 4 (λ count. outcome.TooLarge count) number_is_form (λ y. refl) (λ y. refl), tt),
        ),
      ),
    ),
  );
}
  where
    again : (x : Outcome) (rest : List ℕ) → fits_outcome x ≡ true → read_variant outcome_readings (spell_outcome x ++ rest) ≡ Some (x, rest)
    again outcome.Nothing rest fits = refl
    again (outcome.Chosen walk taken) rest fits =
        holding_again (λ p. outcome.Chosen p.0 p.1) (pair_is_form (list_is_form short_is_form) (list_is_form taken_is_form)) (walk, taken) rest fits
    again outcome.Refused rest fits = refl
    again (outcome.Undecided lemmas) rest fits = holding_again (λ y. outcome.Undecided y) short_is_form lemmas rest fits
    again (outcome.TooLarge count) rest fits = holding_again (λ y. outcome.TooLarge y) number_is_form count rest fits

pub resolution_is_form : IsForm resolution_form
unfolding resolution_form
resolution_is_form =
    seen_as_is_form _ _ (λ y. refl) (λ x. refl)
    (pair_is_form number_is_form (pair_is_form short_is_form (pair_is_form truth_is_form (pair_is_form basis_is_form (pair_is_form outcome_is_form bytes_is_form)))))
