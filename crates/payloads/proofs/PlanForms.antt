-- Install plans and their steps have forms.
use Rattle.std.proofs.Common.{◌≡◌, true, ℕ, List, ◌++◌, Some, refl}
use Rattle.payloads.specs.Form.{read_variant}
use Rattle.payloads.specs.Laws.{IsForm}
use Rattle.payloads.specs.Plans.{plan_fault_form, plan_fault_readings, spell_plan_fault, fits_plan_fault, plan_phase_form, plan_phase_number, plan_phases, step_state_form, step_state_readings, spell_step_state, fits_step_state, step_form, plan_form}
use Rattle.cluster_objects.specs.declared.plans.PlanFault.{PlanFault}
use Rattle.cluster_objects.specs.declared.plans.PlanFault.TheVariants as fault
use Rattle.cluster_objects.specs.declared.plans.PlanPhase.TheVariants as phase
use Rattle.cluster_objects.specs.declared.plans.StepState.{StepState}
use Rattle.cluster_objects.specs.declared.plans.StepState.TheVariants as state
use Rattle.payloads.proofs.Combinators.{pair_is_form, seen_as_is_form, plain_is_form, option_is_form, variants_only, bare_only, holding_only, holding_again}
use Rattle.payloads.proofs.Leaves.{number_is_form, truth_is_form, bytes_is_form, name_is_form, list_is_form}
use Rattle.payloads.proofs.KeyForms.{key_is_form}
use Rattle.payloads.proofs.StatusForms.{made_is_form}

pub plan_fault_is_form : IsForm plan_fault_form
unfolding plan_fault_form
plan_fault_is_form = record {
  again = again;
  only = variants_only fits_plan_fault spell_plan_fault plan_fault_readings (
    holding_only fits_plan_fault spell_plan_fault 0 (λ p. fault.BadManifest p.0 p.1) (pair_is_form name_is_form number_is_form) (λ p. refl) (λ p. refl),
    (
      holding_only fits_plan_fault spell_plan_fault 1 (λ bundle. fault.NoManifest bundle) name_is_form (λ y. refl) (λ y. refl),
      (holding_only fits_plan_fault spell_plan_fault 2 (λ p. fault.SameKey p.0 p.1) (pair_is_form number_is_form number_is_form) (λ p. refl) (λ p. refl), tt),
    ),
  );
}
  where
    again : (x : PlanFault) (rest : List ℕ) → fits_plan_fault x ≡ true → read_variant plan_fault_readings (spell_plan_fault x ++ rest) ≡ Some (x, rest)
    again (fault.BadManifest bundle index) rest fits = holding_again (λ p. fault.BadManifest p.0 p.1) (pair_is_form name_is_form number_is_form) (bundle, index) rest fits
    again (fault.NoManifest bundle) rest fits = holding_again (λ y. fault.NoManifest y) name_is_form bundle rest fits
    again (fault.SameKey first second) rest fits = holding_again (λ p. fault.SameKey p.0 p.1) (pair_is_form number_is_form number_is_form) (first, second) rest fits

pub plan_phase_is_form : IsForm plan_phase_form
unfolding plan_phase_form
plan_phase_is_form =
    plain_is_form plan_phase_number plan_phases
    (elim [ phase.Nothing ↦ refl | phase.Planning ↦ refl | phase.RequiresApproval ↦ refl | phase.Installing ↦ refl | phase.Complete ↦ refl | phase.Failed ↦ refl ])
    (refl, (refl, (refl, (refl, (refl, (refl, tt))))))

pub step_state_is_form : IsForm step_state_form
unfolding step_state_form
step_state_is_form = record {
  again = again;
  only = variants_only fits_step_state spell_step_state step_state_readings (
    bare_only fits_step_state spell_step_state 0 state.Unknown refl refl,
    (
      holding_only fits_step_state spell_step_state 1 (λ version. state.Aimed version) number_is_form (λ y. refl) (λ y. refl),
      (
        bare_only fits_step_state spell_step_state 2 state.Created refl refl,
        (
          bare_only fits_step_state spell_step_state 3 state.Present refl refl,
          (bare_only fits_step_state spell_step_state 4 state.Overtaken refl refl, tt),
        ),
      ),
    ),
  );
}
  where
    again : (x : StepState) (rest : List ℕ) → fits_step_state x ≡ true → read_variant step_state_readings (spell_step_state x ++ rest) ≡ Some (x, rest)
    again state.Unknown rest fits = refl
    again (state.Aimed version) rest fits = holding_again (λ y. state.Aimed y) number_is_form version rest fits
    again state.Created rest fits = refl
    again state.Present rest fits = refl
    again state.Overtaken rest fits = refl

pub step_is_form : IsForm step_form
unfolding step_form
step_is_form = seen_as_is_form _ _ (λ y. refl) (λ x. refl) (pair_is_form key_is_form (pair_is_form bytes_is_form (pair_is_form made_is_form step_state_is_form)))

pub plan_is_form : IsForm plan_form
unfolding plan_form
plan_is_form =
    seen_as_is_form _ _ (λ y. refl) (λ x. refl)
    (pair_is_form number_is_form (pair_is_form truth_is_form (pair_is_form truth_is_form (pair_is_form plan_phase_is_form (pair_is_form (option_is_form plan_fault_is_form) (list_is_form step_is_form))))))
