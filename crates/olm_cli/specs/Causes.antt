-- The causes for which a run ends with another status than 0, and their statuses.
use Rattle.std.specs.Prelude.{ℕ, Bool, true, false, Option, Some, None, ⊤}
use Rattle.olm_cli.specs.declared.causes.Exit.{Exit}
use Rattle.olm_cli.specs.declared.causes.Exit.TheVariants as exit
use Rattle.olm_cli.specs.declared.causes.Cause.{Cause}
use Rattle.olm_cli.specs.declared.causes.Cause.TheVariants.{NoChoice, NotAccepted, BrokenRules, NoChannel, BadWords, Stream, SplitFile, FileNotRead, Field, NoEvent, UnknownEvent, FolderFailed, InputFailed, DiskFailed, OutputFailed, NoMemory, BudgetSpent, Damaged, TooLong, TooManyVariables, StoreFull}

-- may come at any time: a fault of the outside, and want of memory
abbrev pub is_free : Cause → Bool
is_free NoChoice = false
is_free NotAccepted = false
is_free BrokenRules = false
is_free NoChannel = false
is_free BadWords = false
is_free (Stream fault) = false
is_free (SplitFile path fault) = false
is_free (FileNotRead path) = false
is_free (Field blob path kind) = false
is_free (NoEvent blob) = false
is_free (UnknownEvent blob) = false
is_free FolderFailed = true
is_free InputFailed = true
is_free DiskFailed = true
is_free OutputFailed = true
is_free NoMemory = true
is_free BudgetSpent = false
is_free (Damaged at) = false
is_free TooLong = false
is_free (TooManyVariables count) = false
is_free StoreFull = false

-- a run that ended so; without a cause it is done
abbrev pub is_free_end : Option Cause → Bool
is_free_end None = false
is_free_end (Some cause) = is_free cause

-- the status of a run that ended so
abbrev pub exit_of : Cause → Exit
exit_of NoChoice = exit.Refused
exit_of NotAccepted = exit.Refused
exit_of BrokenRules = exit.Refused
exit_of NoChannel = exit.Refused
exit_of BadWords = exit.Words
exit_of (Stream fault) = exit.Input
exit_of (SplitFile path fault) = exit.Input
exit_of (FileNotRead path) = exit.Input
exit_of (Field blob path kind) = exit.Input
exit_of (NoEvent blob) = exit.Input
exit_of (UnknownEvent blob) = exit.Input
exit_of FolderFailed = exit.Outside
exit_of InputFailed = exit.Outside
exit_of DiskFailed = exit.Outside
exit_of OutputFailed = exit.Outside
exit_of NoMemory = exit.Memory
exit_of BudgetSpent = exit.Unfinished
exit_of (Damaged at) = exit.Damaged
exit_of TooLong = exit.Limit
exit_of (TooManyVariables count) = exit.Limit
exit_of StoreFull = exit.Limit

abbrev pub status_of : Option Cause → Exit
status_of None = exit.Done
status_of (Some cause) = exit_of cause

-- the number of a status
abbrev pub number_of : Exit → ℕ
number_of exit.Done = 0
number_of exit.Refused = 1
number_of exit.Words = 2
number_of exit.Input = 3
number_of exit.Outside = 4
number_of exit.Memory = 5
number_of exit.Unfinished = 6
number_of exit.Damaged = 7
number_of exit.Limit = 8

-- the run has ended with an answer
abbrev pub is_answered : Exit → Bool
is_answered exit.Done = true
is_answered exit.Refused = true
is_answered exit.Words = false
is_answered exit.Input = false
is_answered exit.Outside = false
is_answered exit.Memory = false
is_answered exit.Unfinished = true
is_answered exit.Damaged = true
is_answered exit.Limit = false

-- nothing is put on `err`
abbrev pub is_silent : Exit → Bool
is_silent exit.Done = true
is_silent exit.Refused = false
is_silent exit.Words = false
is_silent exit.Input = false
is_silent exit.Outside = false
is_silent exit.Memory = false
is_silent exit.Unfinished = true
is_silent exit.Damaged = false
is_silent exit.Limit = false

-- may come while a text is read as a catalog, and once it was
abbrev pub is_of_text : Cause → Bool
is_of_text NoChoice = true
is_of_text NotAccepted = true
is_of_text BrokenRules = true
is_of_text NoChannel = true
is_of_text BadWords = false
is_of_text (Stream fault) = true
is_of_text (SplitFile path fault) = true
is_of_text (FileNotRead path) = true
is_of_text (Field blob path kind) = true
is_of_text (NoEvent blob) = false
is_of_text (UnknownEvent blob) = false
is_of_text FolderFailed = false
is_of_text InputFailed = false
is_of_text DiskFailed = false
is_of_text OutputFailed = false
is_of_text NoMemory = true
is_of_text BudgetSpent = true
is_of_text (Damaged at) = false
is_of_text TooLong = true
is_of_text (TooManyVariables count) = true
is_of_text StoreFull = false

-- may come while the text of a catalog or of a certificate is read
abbrev pub is_of_reading : Cause → Bool
is_of_reading NoChoice = false
is_of_reading NotAccepted = false
is_of_reading BrokenRules = false
is_of_reading NoChannel = false
is_of_reading BadWords = false
is_of_reading (Stream fault) = true
is_of_reading (SplitFile path fault) = true
is_of_reading (FileNotRead path) = true
is_of_reading (Field blob path kind) = true
is_of_reading (NoEvent blob) = false
is_of_reading (UnknownEvent blob) = false
is_of_reading FolderFailed = true
is_of_reading InputFailed = true
is_of_reading DiskFailed = false
is_of_reading OutputFailed = false
is_of_reading NoMemory = true
is_of_reading BudgetSpent = false
is_of_reading (Damaged at) = false
is_of_reading TooLong = true
is_of_reading (TooManyVariables count) = false
is_of_reading StoreFull = false

-- a run over a catalog may end so once its text has been read
abbrev pub is_after_reading : Option Cause → Bool
is_after_reading None = true
is_after_reading (Some NoChoice) = true
is_after_reading (Some NotAccepted) = true
is_after_reading (Some BrokenRules) = true
is_after_reading (Some NoChannel) = true
is_after_reading (Some BadWords) = false
is_after_reading (Some (Stream fault)) = true
is_after_reading (Some (SplitFile path fault)) = true
is_after_reading (Some (FileNotRead path)) = true
is_after_reading (Some (Field blob path kind)) = true
is_after_reading (Some (NoEvent blob)) = false
is_after_reading (Some (UnknownEvent blob)) = false
is_after_reading (Some FolderFailed) = false
is_after_reading (Some InputFailed) = false
is_after_reading (Some DiskFailed) = false
is_after_reading (Some OutputFailed) = true
is_after_reading (Some NoMemory) = true
is_after_reading (Some BudgetSpent) = true
is_after_reading (Some (Damaged at)) = false
is_after_reading (Some TooLong) = true
is_after_reading (Some (TooManyVariables count)) = true
is_after_reading (Some StoreFull) = false

-- Of the facts that a count rose, the one that a cause claims: that of what its line names.
abbrev pub HasRisen : (Folder Input Disk Output : Type 0) → Option Cause → Type 0
HasRisen Folder Input Disk Output None = ⊤
HasRisen Folder Input Disk Output (Some NoChoice) = ⊤
HasRisen Folder Input Disk Output (Some NotAccepted) = ⊤
HasRisen Folder Input Disk Output (Some BrokenRules) = ⊤
HasRisen Folder Input Disk Output (Some NoChannel) = ⊤
HasRisen Folder Input Disk Output (Some BadWords) = ⊤
HasRisen Folder Input Disk Output (Some (Stream fault)) = ⊤
HasRisen Folder Input Disk Output (Some (SplitFile path fault)) = ⊤
HasRisen Folder Input Disk Output (Some (FileNotRead path)) = ⊤
HasRisen Folder Input Disk Output (Some (Field blob path kind)) = ⊤
HasRisen Folder Input Disk Output (Some (NoEvent blob)) = ⊤
HasRisen Folder Input Disk Output (Some (UnknownEvent blob)) = ⊤
HasRisen Folder Input Disk Output (Some FolderFailed) = Folder
HasRisen Folder Input Disk Output (Some InputFailed) = Input
HasRisen Folder Input Disk Output (Some DiskFailed) = Disk
HasRisen Folder Input Disk Output (Some OutputFailed) = Output
HasRisen Folder Input Disk Output (Some NoMemory) = ⊤
HasRisen Folder Input Disk Output (Some BudgetSpent) = ⊤
HasRisen Folder Input Disk Output (Some (Damaged at)) = ⊤
HasRisen Folder Input Disk Output (Some TooLong) = ⊤
HasRisen Folder Input Disk Output (Some (TooManyVariables count)) = ⊤
HasRisen Folder Input Disk Output (Some StoreFull) = ⊤
