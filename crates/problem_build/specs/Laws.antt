-- What is so of every problem of a namespace.
use Rattle.std.specs.Prelude.{◌≡◌, ◌≤◌, ◌<◌, ◌+◌, ℕ, Bool, true, List, length, Some, slice_get}
use Rattle.std.specs.List.{AllByRecursion}
use Rattle.olm_base.specs.declared.gvk.Gvk.{Gvk}
use Rattle.cluster_objects.specs.declared.resolutions.Basis.{Basis}
use Rattle.op_constraints.specs.Meets.{IsClosed, Meets}
use Rattle.op_constraints.specs.Walks.{picks}
use Rattle.op_constraints.specs.declared.Constraint.{Constraint}
use Rattle.op_properties.specs.Offers.{Provided}
use Rattle.view_basis.specs.declared.visible.Visible.{Visible}
use Rattle.problem_build.specs.Building.{asks, choices}
use Rattle.problem_build.specs.Entries.{entries}
use Rattle.problem_build.specs.Reaching.{AreReached}
use Rattle.problem_build.specs.Variables.{Choices, first_entry, has_kind, is_of_package, names, problem, provided}
use Rattle.problem_build.specs.declared.names.VarName.{VarName}

-- The problem of a basis and its visible catalogs, and what its variables stand for.
pub record IsProblemOf (basis : Basis) (catalogs : List Visible) (built : List (List Constraint)) (built_names : List VarName) : Type 0 where
  pub reached : List Bool
  pub are_reached : AreReached (asks basis catalogs) (entries catalogs) reached
  pub is_problem : built ≡ problem (choices basis catalogs reached)
  pub are_names : built_names ≡ names basis.subscriptions basis.tips (choices basis catalogs reached)

-- There is one problem of a basis and its catalogs, and one list of names.
abbrev pub ThereIsOne : Type 0
ThereIsOne =
    (basis : Basis) (catalogs : List Visible) (built other : List (List Constraint)) (these those : List VarName)
    → IsProblemOf basis catalogs built these → IsProblemOf basis catalogs other those → (built ≡ other) × (these ≡ those)

-- Every variable that a constraint names is there.
abbrev pub AllAreThere : Type 0
AllAreThere =
    (basis : Basis) (catalogs : List Visible) (built : List (List Constraint)) (these : List VarName)
    → IsProblemOf basis catalogs built these → IsClosed built

-- Of the entries and tips that pass a test, a set has one at most.
abbrev pub HasOneAtMost : Choices → (ℕ → Bool) → (Provided → Bool) → Type 0
HasOneAtMost choices set provides =
    (i j : ℕ) (a b : Provided) → slice_get (provided choices) i ≡ Some a → slice_get (provided choices) j ≡ Some b
    → provides a ≡ true → provides b ≡ true → set (first_entry choices + i) ≡ true → set (first_entry choices + j) ≡ true → i ≡ j

-- A set that meets the problem takes at most one entry or tip of a package, and at most one provider of a kind.
abbrev pub PackagesAreOnce : Type 0
PackagesAreOnce =
    (choices : Choices) (set : ℕ → Bool) → Meets (problem choices) set → (name : List ℕ) → HasOneAtMost choices set (is_of_package name)

abbrev pub KindsAreOnce : Type 0
KindsAreOnce =
    (choices : Choices) (set : ℕ → Bool) → Meets (problem choices) set → (kind : Gvk) → HasOneAtMost choices set (has_kind kind)

-- The variable is an entry's or a tip's.
abbrev pub IsEntryOrTip : Choices → ℕ → Type 0
IsEntryOrTip choices v = (first_entry choices ≤ v) × (v < first_entry choices + length (provided choices))

-- A walk picks entries and tips.
abbrev pub PicksAreEntriesOrTips : Type 0
PicksAreEntriesOrTips =
    (basis : Basis) (catalogs : List Visible) (reached : List Bool) (numbers : List ℕ)
    → AllByRecursion (IsEntryOrTip (choices basis catalogs reached)) (picks (problem (choices basis catalogs reached)) numbers)
