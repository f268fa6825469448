-- How install plans and their steps are spelled.
use Rattle.std.specs.Prelude.{Bool, true, ℕ, Option, List, [], ◌∷◌}
use Rattle.payloads.specs.Form.{Form, ◌⊗◌, seen_as, plain, read_variant, bare, holding, number_form, truth_form, bytes_form, name_form, list_form, option_form}
use Rattle.payloads.specs.Keys.{key_form}
use Rattle.payloads.specs.Statuses.{made_form}
use Rattle.cluster_objects.specs.declared.plans.PlanFault.{PlanFault}
use Rattle.cluster_objects.specs.declared.plans.PlanFault.TheVariants as fault
use Rattle.cluster_objects.specs.declared.plans.PlanPhase.{PlanPhase}
use Rattle.cluster_objects.specs.declared.plans.PlanPhase.TheVariants as phase
use Rattle.cluster_objects.specs.declared.plans.StepState.{StepState}
use Rattle.cluster_objects.specs.declared.plans.StepState.TheVariants as state
use Rattle.cluster_objects.specs.declared.plans.Step.{Step}
use Rattle.cluster_objects.specs.declared.plans.PlanStatus.{PlanStatus}

abbrev pub spell_plan_fault : PlanFault → List ℕ
spell_plan_fault (fault.BadManifest bundle index) = 0 ∷ (name_form ⊗ number_form).spell (bundle, index)
spell_plan_fault (fault.NoManifest bundle) = 1 ∷ name_form.spell bundle
spell_plan_fault (fault.SameKey first second) = 2 ∷ (number_form ⊗ number_form).spell (first, second)

abbrev pub fits_plan_fault : PlanFault → Bool
fits_plan_fault (fault.BadManifest bundle index) = (name_form ⊗ number_form).fits (bundle, index)
fits_plan_fault (fault.NoManifest bundle) = name_form.fits bundle
fits_plan_fault (fault.SameKey first second) = (number_form ⊗ number_form).fits (first, second)

abbrev pub plan_fault_readings : List (List ℕ → Option (PlanFault × List ℕ))
plan_fault_readings =
    holding (name_form ⊗ number_form) (λ p. fault.BadManifest p.0 p.1)
    ∷ holding name_form (λ bundle. fault.NoManifest bundle)
    ∷ holding (number_form ⊗ number_form) (λ p. fault.SameKey p.0 p.1)
    ∷ []

unfoldable pub plan_fault_form : Form PlanFault
plan_fault_form = record { spell = spell_plan_fault; read = read_variant plan_fault_readings; fits = fits_plan_fault }

abbrev pub plan_phase_number : PlanPhase → ℕ
plan_phase_number phase.Nothing = 0
plan_phase_number phase.Planning = 1
plan_phase_number phase.RequiresApproval = 2
plan_phase_number phase.Installing = 3
plan_phase_number phase.Complete = 4
plan_phase_number phase.Failed = 5

abbrev pub plan_phases : List PlanPhase
plan_phases = phase.Nothing ∷ phase.Planning ∷ phase.RequiresApproval ∷ phase.Installing ∷ phase.Complete ∷ phase.Failed ∷ []

unfoldable pub plan_phase_form : Form PlanPhase
plan_phase_form = plain plan_phase_number plan_phases

abbrev pub spell_step_state : StepState → List ℕ
spell_step_state state.Unknown = 0 ∷ []
spell_step_state (state.Aimed version) = 1 ∷ number_form.spell version
spell_step_state state.Created = 2 ∷ []
spell_step_state state.Present = 3 ∷ []
spell_step_state state.Overtaken = 4 ∷ []

abbrev pub fits_step_state : StepState → Bool
fits_step_state state.Unknown = true
fits_step_state (state.Aimed version) = number_form.fits version
fits_step_state state.Created = true
fits_step_state state.Present = true
fits_step_state state.Overtaken = true

abbrev pub step_state_readings : List (List ℕ → Option (StepState × List ℕ))
step_state_readings =
    bare state.Unknown
    ∷ holding number_form (λ version. state.Aimed version)
    ∷ bare state.Created
    ∷ bare state.Present
    ∷ bare state.Overtaken
    ∷ []

unfoldable pub step_state_form : Form StepState
step_state_form = record { spell = spell_step_state; read = read_variant step_state_readings; fits = fits_step_state }

unfoldable pub step_form : Form Step
step_form = seen_as (key_form ⊗ bytes_form ⊗ made_form ⊗ step_state_form)
    (λ p. record { key = p.0; body = p.1.0; made = p.1.1.0; state = p.1.1.1 })
    (λ s. (s.key, (s.body, (s.made, s.state))))

unfoldable pub plan_form : Form PlanStatus
plan_form = seen_as (number_form ⊗ truth_form ⊗ truth_form ⊗ plan_phase_form ⊗ option_form plan_fault_form ⊗ list_form step_form)
    (λ p. record { number = p.0; manual = p.1.0; approved = p.1.1.0; phase = p.1.1.1.0; cause = p.1.1.1.1.0; steps = p.1.1.1.1.1 })
    (λ s. (s.number, (s.manual, (s.approved, (s.phase, (s.cause, s.steps))))))
