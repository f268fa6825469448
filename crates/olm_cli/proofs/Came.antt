-- What a call comes to that puts nothing.
use Rattle.std.proofs.Common.{◌≡◌, ◌∙◌, ℕ, List, [], ap, Bool, true, false, not, refl, sym, subst, Option, Some, None, Result, Ok, Err, inl, inr, ◌⊎◌}
use Rattle.std.proofs.lemmas.Bool.{cases_Bool}
use Rattle.olm_io.proofs.Told.{puts_nothing}
use Rattle.olm_cli.specs.declared.causes.Cause.{Cause}
use Rattle.olm_cli.specs.declared.causes.Cause.TheVariants.{FolderFailed, InputFailed, DiskFailed, OutputFailed, NoMemory}
use Rattle.olm_cli.specs.Causes.{is_free, is_free_end, HasRisen}
use Rattle.olm_cli.specs.Commands.{CatalogRuns, IsToldAs, TaskRuns}
use Rattle.olm_cli.specs.Places.{Holds}
use Rattle.olm_cli.specs.Words.{Place, Task}
use Rattle.olm_cli.specs.Runs.{Ran, stopped, After, AfterHeld, Comes}

-- the run that stops for a cause
pub stopped_comes : (Permits : Ran → Type 0) (cause : Cause) (known : Option (List ℕ)) → Permits (stopped cause) → Comes Permits (Some cause) known known
stopped_comes Permits cause known p = (stopped cause, p, (λ e. refl), puts_nothing (is_free cause) known [] (λ e. refl))

-- a cause that may come at any time stops any run that is permitted
pub free_comes : (Permits : Ran → Type 0) (cause : Cause) (known : Option (List ℕ)) → is_free cause ≡ true → (ran : Ran) × Permits ran → Comes Permits (Some cause) known known
free_comes Permits cause known free p =
    (p.0, p.1, (λ bound. (let bad : true ≡ false = sym free ∙ bound in cc)), puts_nothing (is_free cause) known (p.0).output (λ bound. (let bad : true ≡ false = sym free ∙ bound in cc)))

-- there is a run behind each step, where there is one for each value of it
pub a_run : {T : Type 0} (step : Result T Cause) (Permits : T → Ran → Type 0) → ((value : T) → (ran : Ran) × Permits value ran) → (ran : Ran) × After step Permits ran
a_run (Err cause) Permits each = (stopped cause, refl)
a_run (Ok value) Permits each = each value

-- a step that answered a cause: the step's own one, or one that may come at any time
pub step_comes : {T : Type 0} (step : Result T Cause) (Permits : T → Ran → Type 0) (cause : Cause) (known : Option (List ℕ)) → ((value : T) → (ran : Ran) × Permits value ran) → (is_free cause ≡ false → step ≡ Err cause) → Comes (After step Permits) (Some cause) known known
step_comes step Permits cause known each given =
    elim (cases_Bool (is_free cause)) [
      | inl free ↦ free_comes (After step Permits) cause known free (a_run step Permits each)
      | inr bound ↦ stopped_comes (After step Permits) cause known (subst (λ r. After r Permits (stopped cause)) (sym (given bound)) refl)
    ]

-- a step that answered a value, and what comes behind it
pub value_comes : {T : Type 0} (step : Result T Cause) (Permits : T → Ran → Type 0) (value : T) (end : Option Cause) (old new : Option (List ℕ)) → step ≡ Ok value → Comes (Permits value) end old new → Comes (After step Permits) end old new
value_comes step Permits value end old new e came = (came.0, subst (λ r. After r Permits came.0) (sym e) came.1, came.2, came.3)

-- the count rose of what the cause names
risen_for : (Folder Input Disk Output : Type 0) (cause : Cause) → (Some cause ≡ Some FolderFailed → Folder) → (Some cause ≡ Some InputFailed → Input) → (Some cause ≡ Some DiskFailed → Disk) → (Some cause ≡ Some OutputFailed → Output) → HasRisen Folder Input Disk Output (Some cause)
risen_for Folder Input Disk Output FolderFailed folder input disk output = folder refl
risen_for Folder Input Disk Output InputFailed folder input disk output = input refl
risen_for Folder Input Disk Output DiskFailed folder input disk output = disk refl
risen_for Folder Input Disk Output OutputFailed folder input disk output = output refl
risen_for Folder Input Disk Output _ folder input disk output = tt

pub told_risen : (Folder Input Disk Output : Type 0) (cause told : Cause) → (told ≡ cause) ⊎ (told ≡ NoMemory) → (Some cause ≡ Some FolderFailed → Folder) → (Some cause ≡ Some InputFailed → Input) → (Some cause ≡ Some DiskFailed → Disk) → (Some cause ≡ Some OutputFailed → Output) → HasRisen Folder Input Disk Output (Some told)
told_risen Folder Input Disk Output cause told (inl same) folder input disk output = subst (λ t. HasRisen Folder Input Disk Output (Some t)) (sym same) (risen_for Folder Input Disk Output cause folder input disk output)
told_risen Folder Input Disk Output cause told (inr none) folder input disk output = subst (λ t. HasRisen Folder Input Disk Output (Some t)) (sym none) tt

-- the cause is told, or that there is no memory to tell it
pub told_as : (cause told : Cause) → (told ≡ cause) ⊎ (told ≡ NoMemory) → IsToldAs (Some cause) (Some told)
told_as cause told (inl same) = inl (ap (λ t. Some t) same)
told_as cause told (inr none) = inr (ap (λ t. Some t) none)

-- a run over what a place holds is a run of the command
pub placed_comes : (place : Place) (task : Task) (files : Option (List (List ℕ × List ℕ))) (left : Option (List ℕ)) (found : Result (List ℕ) Cause) (end : Option Cause) (old new : Option (List ℕ)) → Holds place files left found → Comes (After found (TaskRuns task)) end old new → Comes (CatalogRuns place task files left) end old new
placed_comes place task files left found end old new holds came = (came.0, (found, holds, came.1), came.2, came.3)

-- a run behind a step that something holds of
pub held_comes : {T : Type 0} (Held : Result T Cause → Type 0) (Permits : T → Ran → Type 0) (step : Result T Cause) (end : Option Cause) (old new : Option (List ℕ)) → Held step → Comes (After step Permits) end old new → Comes (AfterHeld Held Permits) end old new
held_comes Held Permits step end old new held came = (came.0, (step, held, came.1), came.2, came.3)
