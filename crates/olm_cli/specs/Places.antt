-- The text of the catalog that a place holds.
use Rattle.std.specs.Prelude.{◌≡◌, ℕ, Bool, true, false, nat_le, List, length, if◌then◌else◌, Option, Result, Ok, Err}
use Rattle.olm_io.specs.Outside.{IsTold}
use Rattle.olm_io.specs.declared.traits.FolderFault.TheVariants as folder
use Rattle.fbc_read.specs.Bodies.{IsBody, input_limit}
use Rattle.fbc_read.specs.declared.bodies.BodyFault.{BodyFault}
use Rattle.fbc_read.specs.declared.bodies.BodyFault.TheVariants.{Folder, Yaml, Split, Memory}
use Rattle.olm_cli.specs.declared.causes.Cause.{Cause}
use Rattle.olm_cli.specs.declared.causes.Cause.TheVariants.{NoChoice, NotAccepted, BrokenRules, NoChannel, BadWords, Stream, SplitFile, FileNotRead, Field, NoEvent, UnknownEvent, FolderFailed, InputFailed, DiskFailed, OutputFailed, NoMemory, BudgetSpent, Damaged, TooLong, TooManyVariables, StoreFull}
use Rattle.olm_cli.specs.Words.{Place, Input, Below}

-- an input, where it isn't too long
abbrev pub within_limit : List ℕ → Result (List ℕ) Cause
within_limit text = if nat_le (length text) input_limit then Ok text else Err TooLong

-- the cause for which a folder gives no text
abbrev pub body_cause : BodyFault → Cause
body_cause (Folder folder.Failed) = FolderFailed
body_cause (Folder (folder.TooLong limit)) = TooLong
body_cause (Folder folder.Memory) = NoMemory
body_cause (Yaml path) = FileNotRead path
body_cause (Split path fault) = SplitFile path fault
body_cause Memory = NoMemory

abbrev pub or_body_cause : Result (List ℕ) BodyFault → Result (List ℕ) Cause
or_body_cause (Ok text) = Ok text
or_body_cause (Err fault) = Err (body_cause fault)

-- What the input holds, where that is told, and what the files below a path of the folder give together.
abbrev pub InputHolds : Option (List ℕ) → Result (List ℕ) Cause → Type 0
InputHolds left found = (text : List ℕ) × IsTold left text × (found ≡ within_limit text)

abbrev pub FolderHolds : List ℕ → Option (List (List ℕ × List ℕ)) → Result (List ℕ) Cause → Type 0
FolderHolds path files found = (body : Result (List ℕ) BodyFault) × IsBody files path input_limit body × (found ≡ or_body_cause body)

abbrev pub Holds : Place → Option (List (List ℕ × List ℕ)) → Option (List ℕ) → Result (List ℕ) Cause → Type 0
Holds Input files left found = InputHolds left found
Holds (Below path) files left found = FolderHolds path files found

abbrev pub is_input : Place → Bool
is_input Input = true
is_input (Below path) = false

abbrev pub is_folder : Place → Bool
is_folder Input = false
is_folder (Below path) = true

-- may come while the input is read, and while the folder is
abbrev pub is_of_input : Cause → Bool
is_of_input NoChoice = false
is_of_input NotAccepted = false
is_of_input BrokenRules = false
is_of_input NoChannel = false
is_of_input BadWords = false
is_of_input (Stream fault) = false
is_of_input (SplitFile path fault) = false
is_of_input (FileNotRead path) = false
is_of_input (Field blob path kind) = false
is_of_input (NoEvent blob) = false
is_of_input (UnknownEvent blob) = false
is_of_input FolderFailed = false
is_of_input InputFailed = true
is_of_input DiskFailed = false
is_of_input OutputFailed = false
is_of_input NoMemory = true
is_of_input BudgetSpent = false
is_of_input (Damaged at) = false
is_of_input TooLong = true
is_of_input (TooManyVariables count) = false
is_of_input StoreFull = false

abbrev pub is_of_folder : Cause → Bool
is_of_folder NoChoice = false
is_of_folder NotAccepted = false
is_of_folder BrokenRules = false
is_of_folder NoChannel = false
is_of_folder BadWords = false
is_of_folder (Stream fault) = false
is_of_folder (SplitFile path fault) = true
is_of_folder (FileNotRead path) = true
is_of_folder (Field blob path kind) = false
is_of_folder (NoEvent blob) = false
is_of_folder (UnknownEvent blob) = false
is_of_folder FolderFailed = true
is_of_folder InputFailed = false
is_of_folder DiskFailed = false
is_of_folder OutputFailed = false
is_of_folder NoMemory = true
is_of_folder BudgetSpent = false
is_of_folder (Damaged at) = false
is_of_folder TooLong = true
is_of_folder (TooManyVariables count) = false
is_of_folder StoreFull = false
