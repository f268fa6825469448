-- The problem that a view puts, and that a catalog's body, a package and a channel put.
use Rattle.std.specs.Prelude.{◌≡◌, ℕ, if◌then◌else◌, List, [], ◌∷◌, Option, Some, None, Result, Ok, Err}
use Rattle.olm_base.specs.Names.{is_name}
use Rattle.cluster_history.specs.Views.{View}
use Rattle.op_constraints.specs.declared.Constraint.{Constraint}
use Rattle.op_constraints.specs.declared.Constraint.TheVariants.{Mandatory, Dependency}
use Rattle.view_basis.specs.Basis.{basis}
use Rattle.view_basis.specs.Visible.{visible_catalogs}
use Rattle.problem_build.specs.Building.{IsBuilt}
use Rattle.problem_build.specs.declared.building.BuildFault.{BuildFault}
use Rattle.problem_build.specs.declared.building.BuildFault.TheVariants.{TooManyVariables, Memory}
use Rattle.problem_build.specs.declared.building.Built.{Built}
use Rattle.one_subscription.specs.Asked.{asked_view}
use Rattle.catalog_choice.specs.declared.asking.Question.{Question}

-- The name that a text is, if it is one.
abbrev pub name_of : List ℕ → Option (List ℕ)
name_of text = if is_name text then Some text else None

-- The question is the problem that is built of this view, with its names; it fails as the building does.
abbrev pub IsOfView : View → Result Question BuildFault → Type 0
IsOfView view (Ok question) =
    (built : Built) × IsBuilt (basis view) (visible_catalogs view) (Ok built)
    × (question.problem ≡ built.problem) × (question.names ≡ built.names)
IsOfView view (Err fault) = IsBuilt (basis view) (visible_catalogs view) (Err fault)

-- The question has no variable, if there is memory to make it.
abbrev pub IsNothing : Result Question BuildFault → Type 0
IsNothing (Ok question) = (question.problem ≡ []) × (question.names ≡ [])
IsNothing (Err (TooManyVariables count)) = ⊥
IsNothing (Err Memory) = Unit {0}

-- One subscription, which must be there, and nothing meets it.
abbrev pub unmet : List (List Constraint)
unmet = (Mandatory ∷ Dependency [] ∷ []) ∷ []

-- The question is that problem, if there is memory to make it, and its variable has no name.
abbrev pub IsUnmet : Result Question BuildFault → Type 0
IsUnmet (Ok question) = (question.problem ≡ unmet) × (question.names ≡ [])
IsUnmet (Err (TooManyVariables count)) = ⊥
IsUnmet (Err Memory) = Unit {0}

-- Two names ask what the subscription to that channel sees. No package and no channel is called what is no name, so
-- that nothing meets such a subscription.
abbrev pub IsAskedBy : List ℕ → Option (List ℕ) → Option (List ℕ) → Result Question BuildFault → Type 0
IsAskedBy body (Some owner) (Some channel) question = IsOfView (asked_view body owner channel) question
IsAskedBy body (Some owner) None question = IsUnmet question
IsAskedBy body None channel question = IsUnmet question

-- What a catalog of this body is asked by a package and a channel, whatever the texts are.
abbrev pub IsAsked : List ℕ → List ℕ → List ℕ → Result Question BuildFault → Type 0
IsAsked body owner channel question = IsAskedBy body (name_of owner) (name_of channel) question
