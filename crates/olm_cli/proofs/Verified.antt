-- There is a run of `verify` for each folder and each input.
use Rattle.std.proofs.Common.{◌≡◌, ◌∙◌, ℕ, List, [], Bool, true, false, refl, sym, ap, subst, Option, Some, None, Result, Ok, Err, inl, inr}
use Rattle.std.proofs.lemmas.Bool.{cases_Bool}
use Rattle.olm_io.specs.Outside.{IsTold}
use Rattle.problem_build.specs.declared.building.BuildFault.TheVariants.{Memory}
use Rattle.catalog_choice.specs.Asking.{name_of}
use Rattle.olm_cli.specs.declared.causes.Cause.{Cause}
use Rattle.olm_cli.specs.declared.causes.Cause.TheVariants.{SplitFile}
use Rattle.olm_cli.specs.Causes.{is_free, is_free_end}
use Rattle.olm_cli.specs.Places.{FolderHolds, InputHolds, within_limit}
use Rattle.olm_cli.specs.Reading.{valid_of}
use Rattle.olm_cli.specs.Runs.{Ran, stopped, After, AfterHeld, Comes}
use Rattle.olm_cli.specs.Verifying.{FolderRuns, InputRuns, NoTextRuns, TextRuns, Verdicts, VerifyRuns, verdict_run}
use Rattle.olm_cli.proofs.Came.{a_run, free_comes, stopped_comes}
use Rattle.olm_cli.proofs.Resolved.{no_memory}

pub a_verdict : (package_name channel text certificate : List ℕ) → (ran : Ran) × Verdicts package_name channel text certificate ran
a_verdict package_name channel text certificate = (verdict_run (Err Memory), (Err Memory, no_memory text (name_of package_name) (name_of channel), refl))

pub a_text_run : (package_name channel text certificate : List ℕ) → (ran : Ran) × TextRuns package_name channel text certificate ran
a_text_run package_name channel text certificate =
    a_run (valid_of text) (λ read. Verdicts package_name channel text certificate) (λ read. a_verdict package_name channel text certificate)

a_told : (left : Option (List ℕ)) → (text : List ℕ) × IsTold left text
a_told None = ([], tt)
a_told (Some text) = (text, refl)

pub an_input_run : (package_name channel : List ℕ) (left : Option (List ℕ)) (text : List ℕ) → (ran : Ran) × InputRuns package_name channel left text ran
an_input_run package_name channel left text =
    let told = a_told left in
    let found = within_limit told.0 in
    let ran = a_run found (TextRuns package_name channel text) (a_text_run package_name channel text) in
    (ran.0, (found, (told.0, told.1, refl), ran.1))

abbrev Stopping : Cause → List ℕ → Ran → Type 0
Stopping cause text ran = ran ≡ stopped cause

a_stopped_run : (left : Option (List ℕ)) (cause : Cause) → (ran : Ran) × NoTextRuns left cause ran
a_stopped_run left (SplitFile path fault) =
    let told = a_told left in
    let found = within_limit told.0 in
    let ran = a_run found (Stopping (SplitFile path fault)) (λ text. (stopped (SplitFile path fault), refl)) in
    (ran.0, (found, (told.0, told.1, refl), ran.1))
a_stopped_run left cause = (stopped cause, refl)

a_folder_run : (package_name channel : List ℕ) (left : Option (List ℕ)) (found : Result (List ℕ) Cause) → (ran : Ran) × FolderRuns package_name channel left found ran
a_folder_run package_name channel left (Ok text) = an_input_run package_name channel left text
a_folder_run package_name channel left (Err cause) = a_stopped_run left cause

-- a cause that may come at any time is told at once
stays_bound : (left : Option (List ℕ)) (cause told : Cause) → NoTextRuns left cause (stopped told) → is_free told ≡ false → is_free cause ≡ false
stays_bound left (SplitFile path fault) told runs bound = refl
stays_bound left cause told runs bound = sym (ap (λ (ran : Ran). is_free_end ran.end) runs) ∙ bound

-- the input was read, and then the run stops for the cause of before, or for that of the input
pub read_stops : (left : Option (List ℕ)) (text certificate : List ℕ) (cause : Cause) → IsTold left text → within_limit text ≡ Ok certificate → AfterHeld (InputHolds left) (λ text ran. ran ≡ stopped cause) (stopped cause)
read_stops left text certificate cause told e =
    (within_limit text, (text, told, refl), subst (λ found. After found (Stopping cause) (stopped cause)) (sym e) refl)

pub unread_stops : (left : Option (List ℕ)) (text : List ℕ) (cause fault : Cause) → IsTold left text → within_limit text ≡ Err fault → AfterHeld (InputHolds left) (λ text ran. ran ≡ stopped cause) (stopped fault)
unread_stops left text cause fault told e =
    (within_limit text, (text, told, refl), subst (λ found. After found (Stopping cause) (stopped fault)) (sym e) refl)

-- a run behind the folder's text, and one that has none
pub text_comes : (path package_name channel : List ℕ) (files : Option (List (List ℕ × List ℕ))) (left : Option (List ℕ)) (found : Result (List ℕ) Cause) (text : List ℕ) (end : Option Cause) (old new : Option (List ℕ))
    → FolderHolds path files found → found ≡ Ok text → Comes (InputRuns package_name channel left text) end old new → Comes (VerifyRuns path package_name channel files left) end old new
text_comes path package_name channel files left found text end old new holds e came =
    (came.0, (found, holds, subst (λ f. FolderRuns package_name channel left f came.0) (sym e) came.1), came.2, came.3)

pub no_text_comes : (path package_name channel : List ℕ) (files : Option (List (List ℕ × List ℕ))) (left : Option (List ℕ)) (found : Result (List ℕ) Cause) (cause told : Cause) (known : Option (List ℕ))
    → FolderHolds path files found → (is_free cause ≡ false → found ≡ Err cause) → (is_free told ≡ false → NoTextRuns left cause (stopped told))
    → Comes (VerifyRuns path package_name channel files left) (Some told) known known
no_text_comes path package_name channel files left found cause told known holds given stops =
    elim (cases_Bool (is_free told)) [
      | inl free ↦ (let ran = a_folder_run package_name channel left found in free_comes (VerifyRuns path package_name channel files left) told known free (ran.0, (found, holds, ran.1)))
      | inr bound ↦ (let runs = stops bound in stopped_comes (VerifyRuns path package_name channel files left) told known (found, holds, subst (λ f. FolderRuns package_name channel left f (stopped told)) (sym (given (stays_bound left cause told runs bound))) runs))
    ]
