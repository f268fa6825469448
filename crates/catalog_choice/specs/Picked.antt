-- What is printed of the variables that a walk picks.
use Rattle.std.specs.Prelude.{ℕ, List, Option, Some, None, slice_get}
use Rattle.std.specs.List.{filter_map}
use Rattle.std.specs.Option.{option_and_then}
use Rattle.op_constraints.specs.declared.Constraint.{Constraint}
use Rattle.op_constraints.specs.Walks.{picks}
use Rattle.problem_build.specs.declared.names.VarName.{VarName}
use Rattle.problem_build.specs.declared.names.VarName.TheVariants.{Subscription, Entry, Installed, OnePackage, OneKind}
use Rattle.answer_lines.specs.declared.Pick.{Pick}
use Rattle.answer_lines.specs.declared.Pick.TheVariants.{Take, Keep}

-- An entry is taken, and what is installed is kept.
abbrev pub pick_of : VarName → Option Pick
pick_of (Subscription name) = None
pick_of (Entry taken) = Some (Take taken)
pick_of (Installed name) = Some (Keep name)
pick_of (OnePackage name) = None
pick_of (OneKind kind) = None

-- The same of the variable with this number.
abbrev pub pick_at : List VarName → ℕ → Option Pick
pick_at names v = option_and_then pick_of (slice_get names v)

-- What a walk of the problem picks, in the walk's order.
abbrev pub picked : List VarName → List (List Constraint) → List ℕ → List Pick
picked names problem numbers = filter_map (pick_at names) (picks problem numbers)
