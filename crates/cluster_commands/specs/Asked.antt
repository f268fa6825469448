-- What a cluster's history shows of a namespace, and what is asked there, whatever the namespace's text is.
use Rattle.std.specs.Prelude.{Bool, true, false, ℕ, List, [], Option, Some, None, Result, Ok, Err, option_map}
use Rattle.cluster_history.specs.History.{History, position}
use Rattle.cluster_history.specs.Views.{View, view}
use Rattle.cluster_lines.specs.Lines.{shown}
use Rattle.problem_build.specs.declared.building.BuildFault.{BuildFault}
use Rattle.problem_build.specs.declared.building.BuildFault.TheVariants as build
use Rattle.catalog_choice.specs.Asking.{IsNothing, IsOfView, name_of}
use Rattle.catalog_choice.specs.Deciding.{IsAnsweredBy}
use Rattle.catalog_choice.specs.declared.asking.Question.{Question}
use Rattle.catalog_choice.specs.declared.deciding.Answer.{Answer}
use Rattle.cluster_commands.specs.declared.looking.AskFault.{AskFault}
use Rattle.cluster_commands.specs.declared.looking.AskFault.TheVariants.{StoreFailed, TooManyVariables, Memory}

-- what a namespace sees of the whole history
abbrev pub view_now : History → List ℕ → View
view_now h namespace = view h namespace (position h)

-- The same of a namespace that may be any text. What is no name sees nothing.
abbrev pub seen_in : History → List ℕ → Option View
seen_in h namespace = option_map (view_now h) (name_of namespace)

-- The lines of the namespace's objects. Where nothing is seen there are none.
abbrev pub lines_of : Option View → List ℕ
lines_of (Some view) = shown view
lines_of None = []

abbrev pub shown_in : History → List ℕ → List ℕ
shown_in h namespace = lines_of (seen_in h namespace)

-- A view asks what its subscriptions ask. Where nothing is seen nothing is asked.
abbrev pub IsAskedBy : Option View → Result Question BuildFault → Type 0
IsAskedBy (Some view) question = IsOfView view question
IsAskedBy None question = IsNothing question

abbrev pub IsAskedIn : History → List ℕ → Result Question BuildFault → Type 0
IsAskedIn h namespace question = IsAskedBy (seen_in h namespace) question

-- A decision within the budget of a question is told, or the problem is above the limit. A failed call of the store and want of memory may come at any time.
abbrev pub IsDecidedBy : (Result Question BuildFault → Type 0) → ℕ → Result Answer AskFault → Type 0
IsDecidedBy Asks budget (Ok answer) = IsAnsweredBy Asks budget (Ok answer)
IsDecidedBy Asks budget (Err StoreFailed) = Unit {0}
IsDecidedBy Asks budget (Err (TooManyVariables count)) = Asks (Err (build.TooManyVariables count))
IsDecidedBy Asks budget (Err Memory) = Unit {0}

-- the same of what is asked in a namespace
abbrev pub IsDecidedIn : History → List ℕ → ℕ → Result Answer AskFault → Type 0
IsDecidedIn h namespace budget answer = IsDecidedBy (IsAskedIn h namespace) budget answer

-- a call of the store failed
abbrev pub ask_failed : {T : Type 0} → Result T AskFault → Bool
ask_failed (Ok x) = false
ask_failed (Err StoreFailed) = true
ask_failed (Err (TooManyVariables count)) = false
ask_failed (Err Memory) = false

-- the problem is above the limit
abbrev pub is_too_large : {T : Type 0} → Result T AskFault → Bool
is_too_large (Ok x) = false
is_too_large (Err StoreFailed) = false
is_too_large (Err (TooManyVariables count)) = true
is_too_large (Err Memory) = false
