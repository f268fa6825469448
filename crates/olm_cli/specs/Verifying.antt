-- What `verify` comes to: what a text shows of the problem that a folder's catalog, a package and a channel put.
use Rattle.std.specs.Prelude.{◌≡◌, ℕ, Bool, true, false, List, Option, Some, None, Result, Ok, Err}
use Rattle.answer_lines.specs.declared.verdicts.Checked.{Checked}
use Rattle.catalog_choice.specs.Deciding.{IsVerified}
use Rattle.problem_build.specs.declared.building.BuildFault.{BuildFault}
use Rattle.olm_cli.specs.declared.causes.Cause.{Cause}
use Rattle.olm_cli.specs.declared.causes.Cause.TheVariants.{NotAccepted, SplitFile}
use Rattle.olm_cli.specs.Places.{FolderHolds, InputHolds}
use Rattle.olm_cli.specs.Reading.{valid_of}
use Rattle.olm_cli.specs.Resolving.{problem_cause}
use Rattle.olm_cli.specs.Runs.{Ran, stopped, After, AfterHeld}

-- how a run ends whose text is accepted, or isn't
abbrev pub judged : Bool → Option Cause
judged true = None
judged false = Some NotAccepted

abbrev pub verdict_run : Result Checked BuildFault → Ran
verdict_run (Ok checked) = record { output = checked.line.items; end = judged checked.accepted }
verdict_run (Err found) = stopped (problem_cause found)

-- the run prints what the certificate's text shows
abbrev pub Verdicts : List ℕ → List ℕ → List ℕ → List ℕ → Ran → Type 0
Verdicts package_name channel text certificate ran =
    (checked : Result Checked BuildFault) × IsVerified text package_name channel certificate checked × (ran ≡ verdict_run checked)

-- over a text, whose catalog must break no rule
abbrev pub TextRuns : List ℕ → List ℕ → List ℕ → List ℕ → Ran → Type 0
TextRuns package_name channel text certificate = After (valid_of text) (λ read. Verdicts package_name channel text certificate)

-- the certificate's text is what the input holds
abbrev pub InputRuns : List ℕ → List ℕ → Option (List ℕ) → List ℕ → Ran → Type 0
InputRuns package_name channel left text = AfterHeld (InputHolds left) (TextRuns package_name channel text)

-- Where the folder gives no text, the run stops for its cause. That a file is no stream by itself is a fault of the texts, so the input is read before it is told.
abbrev pub NoTextRuns : Option (List ℕ) → Cause → Ran → Type 0
NoTextRuns left (SplitFile path fault) ran = AfterHeld (InputHolds left) (λ text ran. ran ≡ stopped (SplitFile path fault)) ran
NoTextRuns left cause ran = ran ≡ stopped cause

-- the catalog's text is that of the folder, which is read before the input
abbrev pub FolderRuns : List ℕ → List ℕ → Option (List ℕ) → Result (List ℕ) Cause → Ran → Type 0
FolderRuns package_name channel left (Ok text) ran = InputRuns package_name channel left text ran
FolderRuns package_name channel left (Err cause) ran = NoTextRuns left cause ran

abbrev pub VerifyRuns : List ℕ → List ℕ → List ℕ → Option (List (List ℕ × List ℕ)) → Option (List ℕ) → Ran → Type 0
VerifyRuns path package_name channel files left ran = (found : Result (List ℕ) Cause) × FolderHolds path files found × FolderRuns package_name channel left found ran
