-- What a question to a cluster's file comes to.
use Rattle.std.specs.Prelude.{◌≡◌, Bool, true, false, ℕ, List, Option, Result, Ok, Err}
use Rattle.cluster_history.specs.History.{History}
use Rattle.cluster_history.specs.Views.{View}
use Rattle.object_store.specs.declared.cluster.ClusterFault.{ClusterFault}
use Rattle.object_store.specs.declared.cluster.ClusterFault.TheVariants as opening
use Rattle.problem_build.specs.declared.building.BuildFault.TheVariants as build
use Rattle.catalog_choice.specs.Deciding.{IsAnsweredBy}
use Rattle.catalog_choice.specs.declared.deciding.Answer.{Answer}
use Rattle.cluster_commands.specs.Asked.{IsAskedIn, seen_in}
use Rattle.file_commands.specs.declared.faults.FileFault.{FileFault}
use Rattle.file_commands.specs.declared.faults.FileFault.TheVariants.{Damaged, Failed, TooManyVariables, Memory}

-- The first two say which answers a history gives, and which sizes of a problem above the limit. An answer is one of the history that was found, and so is such a size. Damage is told with its place. A failed call of the disk and want of memory may come at any time.
abbrev pub Answers : {T : Type 0} → (History → T → Type 0) → (History → ℕ → Type 0) → Result History ℕ → Result T FileFault → Type 0
Answers Gives IsTooLarge found (Ok answer) = (h : History) × (found ≡ Ok h) × Gives h answer
Answers Gives IsTooLarge found (Err (Damaged at)) = found ≡ Err at
Answers Gives IsTooLarge found (Err Failed) = Unit {0}
Answers Gives IsTooLarge found (Err (TooManyVariables count)) = (h : History) × (found ≡ Ok h) × IsTooLarge h count
Answers Gives IsTooLarge found (Err Memory) = Unit {0}

-- No problem is made.
abbrev pub NoProblem : History → ℕ → Type 0
NoProblem h count = ⊥

-- This is what a namespace sees of a history.
abbrev pub Sees : List ℕ → Option View → History → Unit {0} → Type 0
Sees namespace seen h done = seen ≡ seen_in h namespace

-- why nothing is seen, where no store was opened
abbrev pub fault_of : ClusterFault → FileFault
fault_of opening.Failed = Failed
fault_of (opening.Damaged at) = Damaged at
fault_of opening.Memory = Memory

-- What is decided in a namespace of a history, with no more lemmas than the budget, and the size of its problem where that is above the limit.
abbrev pub IsDecision : List ℕ → ℕ → History → Answer → Type 0
IsDecision namespace budget h answer = IsAnsweredBy (IsAskedIn h namespace) budget (Ok answer)

abbrev pub IsProblemSize : List ℕ → History → ℕ → Type 0
IsProblemSize namespace h count = IsAskedIn h namespace (Err (build.TooManyVariables count))

-- a call of the disk failed
abbrev pub file_failed : {T : Type 0} → Result T FileFault → Bool
file_failed (Ok answer) = false
file_failed (Err (Damaged at)) = false
file_failed (Err Failed) = true
file_failed (Err (TooManyVariables count)) = false
file_failed (Err Memory) = false
