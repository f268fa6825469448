-- The words of the command line, and the commands that they stand for.
use Rattle.std.specs.Prelude.{ℕ, ◌+◌, ◌*◌, ◌-◌, ◌==◌, ◌&&◌, not, nat_eq, nat_le, List, [], ◌∷◌, take, drop, codes, Bool, false, if◌then◌else◌, Option, Some, None}
use Rattle.std.specs.Char.{is_ascii_digit}
use Rattle.std.specs.Option.{option_and_then, option_map}
use Rattle.std.specs.Cmp.Lexicographic.{pointwise}
use Rattle.olm_cli.specs.declared.words.Command.{Command as CommandWords}
use Rattle.olm_cli.specs.declared.words.Command.TheVariants as words
use Rattle.olm_cli.specs.declared.words.Place.{Place as PlaceWords}
use Rattle.olm_cli.specs.declared.words.Place.TheVariants as place
use Rattle.olm_cli.specs.declared.words.Task.{Task as TaskWords}
use Rattle.olm_cli.specs.declared.words.Task.TheVariants as task

-- where a catalog stands: in the input, or in the files below a path of the folder
pub data Place : Type 0 where
  Input : Place
  Below : (path : List ℕ) → Place

-- what is to be done with one catalog
pub data Task : Type 0 where
  Check : Task
  Graph : (package_name channel : List ℕ) → Task
  Resolve : (budget : ℕ) (package_name channel : List ℕ) → Task

pub data Command : Type 0 where
  Help : Command
  OnCatalog : Place → Task → Command
  Verify : (path package_name channel : List ℕ) → Command
  Run : Command
  Show : (namespace : List ℕ) → Command
  Decide : (budget : ℕ) (namespace : List ℕ) → Command

-- the budget where the words name none, and the greatest one
abbrev pub default_budget : ℕ
default_budget = 10000

abbrev pub greatest_budget : ℕ
greatest_budget = 16777216

-- the command whose words code has borrowed
abbrev pub place_view : PlaceWords → Place
place_view place.Input = Input
place_view (place.Below path) = Below path.now

abbrev pub task_view : TaskWords → Task
task_view task.Check = Check
task_view (task.Graph names) = Graph names.package_name.now names.channel.now
task_view (task.Resolve budget names) = Resolve budget names.package_name.now names.channel.now

abbrev pub command_view : CommandWords → Command
command_view words.Help = Help
command_view (words.OnCatalog place task) = OnCatalog (place_view place) (task_view task)
command_view (words.Verify path names) = Verify path.now names.package_name.now names.channel.now
command_view words.Run = Run
command_view (words.Show namespace) = Show namespace.now
command_view (words.Decide budget namespace) = Decide budget namespace.now

-- a word that is no option, and not empty
abbrev pub is_plain : List ℕ → Bool
is_plain [] = false
is_plain (byte ∷ bytes) = not (byte == 45)

abbrev pub place_of : List ℕ → Place
place_of path = if pointwise nat_eq path (codes "@") then Input else Below path

-- `PATH`
abbrev pub check_of : List (List ℕ) → Option Command
check_of (path ∷ []) = if is_plain path then Some (OnCatalog (place_of path) Check) else None
check_of words = None

-- `PATH PACKAGE CHANNEL`
abbrev pub graph_of : List (List ℕ) → Option Command
graph_of (path ∷ package_name ∷ channel ∷ []) =
    if is_plain path && is_plain package_name && is_plain channel then Some (OnCatalog (place_of path) (Graph package_name channel)) else None
graph_of words = None

abbrev pub resolve_within : ℕ → List (List ℕ) → Option Command
resolve_within budget (path ∷ package_name ∷ channel ∷ []) =
    if is_plain path && is_plain package_name && is_plain channel then Some (OnCatalog (place_of path) (Resolve budget package_name channel)) else None
resolve_within budget words = None

-- a number with one digit more behind it, where that is a budget
abbrev pub with_digit : ℕ → ℕ → Option ℕ
with_digit value digit =
    if is_ascii_digit digit && nat_le (value * 10 + (digit - 48)) greatest_budget then Some (value * 10 + (digit - 48)) else None

-- the number that digits write behind a number
abbrev pub number_after : ℕ → List ℕ → Option ℕ
number_after value [] = Some value
number_after value (digit ∷ digits) = option_and_then (λ longer. number_after longer digits) (with_digit value digit)

-- the budget that these digits write, at least one and no zero first
abbrev pub budget_of : List ℕ → Option ℕ
budget_of [] = None
budget_of (first ∷ digits) = if first == 48 then None else number_after 0 (first ∷ digits)

-- what stands behind `--budget=`
abbrev pub budget_text : List ℕ → Option (List ℕ)
budget_text word = if pointwise nat_eq (take 9 word) (codes "--budget=") then Some (drop 9 word) else None

abbrev pub budget_first_by : Option (List ℕ) → List ℕ → List (List ℕ) → Option (ℕ × List (List ℕ))
budget_first_by None word words = Some (default_budget, word ∷ words)
budget_first_by (Some digits) word words = option_map (λ budget. (budget, words)) (budget_of digits)

-- `[--budget=N]` and a form: the budget, and the words of the form
abbrev pub budget_first : List (List ℕ) → Option (ℕ × List (List ℕ))
budget_first [] = Some (default_budget, [])
budget_first (word ∷ words) = budget_first_by (budget_text word) word words

-- `[--budget=N] PATH PACKAGE CHANNEL`
abbrev pub resolve_of : List (List ℕ) → Option Command
resolve_of words = option_and_then (λ found. resolve_within found.0 found.1) (budget_first words)

-- `PATH PACKAGE CHANNEL`, where the input is no place
abbrev pub verify_of : List (List ℕ) → Option Command
verify_of (path ∷ package_name ∷ channel ∷ []) =
    if is_plain path && is_plain package_name && is_plain channel then Some (Verify path package_name channel) else None
verify_of words = None

-- no more words
abbrev pub run_of : List (List ℕ) → Option Command
run_of [] = Some Run
run_of words = None

-- `NAMESPACE`
abbrev pub show_of : List (List ℕ) → Option Command
show_of (namespace ∷ []) = if is_plain namespace then Some (Show namespace) else None
show_of words = None

abbrev pub decide_within : ℕ → List (List ℕ) → Option Command
decide_within budget (namespace ∷ []) = if is_plain namespace then Some (Decide budget namespace) else None
decide_within budget words = None

-- `[--budget=N] NAMESPACE`
abbrev pub decide_of : List (List ℕ) → Option Command
decide_of words = option_and_then (λ found. decide_within found.0 found.1) (budget_first words)

-- the one word `--help`
abbrev pub help_of : List (List ℕ) → Option Command
help_of [] = Some Help
help_of words = None

-- The first word names the command, and the others must have its form. Other words are no command.
abbrev pub catalog_command_of : List ℕ → List (List ℕ) → Option Command
catalog_command_of name words =
    if pointwise nat_eq name (codes "check") then check_of words
    else if pointwise nat_eq name (codes "graph") then graph_of words
    else if pointwise nat_eq name (codes "resolve") then resolve_of words
    else if pointwise nat_eq name (codes "verify") then verify_of words
    else None

abbrev pub named_command_of : List ℕ → List (List ℕ) → Option Command
named_command_of name words =
    if pointwise nat_eq name (codes "run") then run_of words
    else if pointwise nat_eq name (codes "show") then show_of words
    else if pointwise nat_eq name (codes "decide") then decide_of words
    else if pointwise nat_eq name (codes "--help") then help_of words
    else catalog_command_of name words

abbrev pub command_of : List (List ℕ) → Option Command
command_of [] = None
command_of (name ∷ words) = named_command_of name words
