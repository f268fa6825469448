-- The problem of a namespace.
use Rattle.std.specs.Prelude.{◌≡◌, ℕ, nat_lt, max, Bool, if◌then◌else◌, List, [], length, map, Option, Some, None, Result, Ok, Err}
use Rattle.std.specs.List.{find, fold, items_where_true}
use Rattle.std.specs.Option.{option_map_or}
use Rattle.fbc_types.specs.Texts.{same}
use Rattle.cluster_objects.specs.declared.resolutions.Basis.{Basis}
use Rattle.op_constraints.specs.declared.Constraint.{Constraint}
use Rattle.op_constraints.specs.declared.TheConstants.{VAR_LIMIT}
use Rattle.view_basis.specs.Tips.{tip_offer}
use Rattle.view_basis.specs.declared.visible.Visible.{Visible}
use Rattle.problem_build.specs.Asking.{asked, upgrades_from}
use Rattle.problem_build.specs.Entries.{entries}
use Rattle.problem_build.specs.Reaching.{AreReached}
use Rattle.problem_build.specs.Variables.{Choices, names, problem}
use Rattle.problem_build.specs.declared.asking.Asked.{Asked}
use Rattle.problem_build.specs.declared.building.BuildFault.{BuildFault}
use Rattle.problem_build.specs.declared.building.BuildFault.TheVariants.{TooManyVariables, Memory}
use Rattle.problem_build.specs.declared.building.Built.{Built}

-- What each subscription asks for, by the subscriptions' names.
abbrev pub asks : Basis → List Visible → List Asked
asks basis catalogs = map (λ subscription. asked catalogs basis.tips subscription.1) basis.subscriptions

abbrev pub choices : Basis → List Visible → List Bool → Choices
choices basis catalogs reached =
    record {
      asks = asks basis catalogs;
      entries = items_where_true reached (entries catalogs);
      tips = map tip_offer basis.tips;
    }

-- The upgrades from the installed one of the subscription of this name.
abbrev pub upgrades_of : Basis → List Visible → List ℕ → List (List ℕ)
upgrades_of basis catalogs name =
    option_map_or (λ subscription. upgrades_from catalogs basis.tips subscription.1)
    (find (λ subscription. same subscription.0 name) basis.subscriptions) []

-- The most constraints that a variable has.
abbrev pub most_constraints : List (List Constraint) → ℕ
most_constraints built = fold max 0 (map length built)

-- By how many a problem is too large: by its variables, or else by the constraints of one of them.
abbrev pub too_many : List (List Constraint) → Option ℕ
too_many built =
    if nat_lt VAR_LIMIT (length built) then Some (length built)
    else if nat_lt VAR_LIMIT (most_constraints built) then Some (most_constraints built) else None

-- The problem over what is chosen from is answered where it isn't too large, and how large it is where it is.
abbrev pub IsAnswer : Basis → Choices → Result Built BuildFault → Type 0
IsAnswer basis from (Ok built) =
    (built.problem ≡ problem from) × (built.names ≡ names basis.subscriptions basis.tips from)
    × (too_many (problem from) ≡ None) × (built.basis ≡ basis)
IsAnswer basis from (Err (TooManyVariables count)) = too_many (problem from) ≡ Some count
IsAnswer basis from (Err Memory) = Unit {0}

-- The answer over a basis and its visible catalogs, with the entries that are reached.
abbrev pub IsBuilt : Basis → List Visible → Result Built BuildFault → Type 0
IsBuilt basis catalogs (Err Memory) = Unit {0}
IsBuilt basis catalogs (Err (TooManyVariables count)) =
    (reached : List Bool) × AreReached (asks basis catalogs) (entries catalogs) reached
    × IsAnswer basis (choices basis catalogs reached) (Err (TooManyVariables count))
IsBuilt basis catalogs (Ok built) =
    (reached : List Bool) × AreReached (asks basis catalogs) (entries catalogs) reached
    × IsAnswer basis (choices basis catalogs reached) (Ok built)
