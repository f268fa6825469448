-- The line on `err` that tells the cause for which a run ended.
use Rattle.std.specs.Prelude.{◌≡◌, ℕ, List, [], ◌++◌, codes, ⊤, Option, Some, None}
use Rattle.std.specs.Fmt.{decimal}
use Rattle.fault_words.specs.Words.{stream_words, split_words, unread_words, of_blob, field_words, too_long_words}
use Rattle.olm_io.specs.Outside.{AppendsFront}
use Rattle.olm_cli.specs.declared.causes.Cause.{Cause}
use Rattle.olm_cli.specs.declared.lines.Line.{Line}
use Rattle.olm_cli.specs.declared.lines.Line.TheVariants.{Fixed, Made}
use Rattle.olm_cli.specs.declared.causes.Cause.TheVariants.{NoChoice, NotAccepted, BrokenRules, NoChannel, BadWords, Stream, SplitFile, FileNotRead, Field, NoEvent, UnknownEvent, FolderFailed, InputFailed, DiskFailed, OutputFailed, NoMemory, BudgetSpent, Damaged, TooLong, TooManyVariables, StoreFull}

abbrev pub cause_text : Cause → List ℕ
cause_text NoChoice = codes "no choice"
cause_text NotAccepted = codes "not accepted"
cause_text BrokenRules = codes "catalog rules"
cause_text NoChannel = codes "no channel"
cause_text BadWords = codes "words"
cause_text (Stream fault) = stream_words fault
cause_text (SplitFile path fault) = split_words path fault
cause_text (FileNotRead path) = unread_words path
cause_text (Field blob path kind) = field_words blob path kind
cause_text (NoEvent blob) = of_blob blob (codes "no event")
cause_text (UnknownEvent blob) = of_blob blob (codes "unknown event")
cause_text FolderFailed = codes "folder failed"
cause_text InputFailed = codes "input failed"
cause_text DiskFailed = codes "disk failed"
cause_text OutputFailed = codes "output failed"
cause_text NoMemory = codes "out of memory"
cause_text BudgetSpent = []
cause_text (Damaged at) = codes "damaged at " ++ decimal at
cause_text TooLong = too_long_words
cause_text (TooManyVariables count) = codes "variables " ++ decimal count
cause_text StoreFull = codes "store full"

abbrev pub full_line : Cause → List ℕ
full_line cause = codes "olmctl: " ++ cause_text cause ++ codes "\n"

-- the line of a cause; the output alone tells that the budget is spent
abbrev pub line_of : Cause → List ℕ
line_of NoChoice = full_line NoChoice
line_of NotAccepted = full_line NotAccepted
line_of BrokenRules = full_line BrokenRules
line_of NoChannel = full_line NoChannel
line_of BadWords = full_line BadWords
line_of (Stream fault) = full_line (Stream fault)
line_of (SplitFile path fault) = full_line (SplitFile path fault)
line_of (FileNotRead path) = full_line (FileNotRead path)
line_of (Field blob path kind) = full_line (Field blob path kind)
line_of (NoEvent blob) = full_line (NoEvent blob)
line_of (UnknownEvent blob) = full_line (UnknownEvent blob)
line_of FolderFailed = full_line FolderFailed
line_of InputFailed = full_line InputFailed
line_of DiskFailed = full_line DiskFailed
line_of OutputFailed = full_line OutputFailed
line_of NoMemory = full_line NoMemory
line_of BudgetSpent = []
line_of (Damaged at) = full_line (Damaged at)
line_of TooLong = full_line TooLong
line_of (TooManyVariables count) = full_line (TooManyVariables count)
line_of StoreFull = full_line StoreFull

-- what is told of a run that ended so; nothing, where it is done
abbrev pub told_line : Option Cause → List ℕ
told_line None = []
told_line (Some cause) = line_of cause

-- any text may stand behind the line that the words are of no form, and nothing behind another
abbrev pub MayFollow : Option Cause → List ℕ → Type 0
MayFollow None more = more ≡ []
MayFollow (Some NoChoice) more = more ≡ []
MayFollow (Some NotAccepted) more = more ≡ []
MayFollow (Some BrokenRules) more = more ≡ []
MayFollow (Some NoChannel) more = more ≡ []
MayFollow (Some BadWords) more = ⊤
MayFollow (Some (Stream fault)) more = more ≡ []
MayFollow (Some (SplitFile path fault)) more = more ≡ []
MayFollow (Some (FileNotRead path)) more = more ≡ []
MayFollow (Some (Field blob path kind)) more = more ≡ []
MayFollow (Some (NoEvent blob)) more = more ≡ []
MayFollow (Some (UnknownEvent blob)) more = more ≡ []
MayFollow (Some FolderFailed) more = more ≡ []
MayFollow (Some InputFailed) more = more ≡ []
MayFollow (Some DiskFailed) more = more ≡ []
MayFollow (Some OutputFailed) more = more ≡ []
MayFollow (Some NoMemory) more = more ≡ []
MayFollow (Some BudgetSpent) more = more ≡ []
MayFollow (Some (Damaged at)) more = more ≡ []
MayFollow (Some TooLong) more = more ≡ []
MayFollow (Some (TooManyVariables count)) more = more ≡ []
MayFollow (Some StoreFull) more = more ≡ []

-- The held bytes grew by what is told of a run that ended so and what may follow it, or by a front of both.
abbrev pub Tells : Option Cause → Option (List ℕ) → Option (List ℕ) → Type 0
Tells end old new = (more : List ℕ) × MayFollow end more × AppendsFront old new (told_line end ++ more)

-- the bytes of a line that code has
abbrev pub line_bytes : Line → List ℕ
line_bytes (Fixed line) = line.now
line_bytes (Made line) = line.items
