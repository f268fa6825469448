-- Which versions a condition, and a range, hold for.
use Rattle.std.specs.Prelude.{◌+◌, Bool, ◌&&◌, ◌||◌, List}
use Rattle.std.specs.List.{list_all, list_any}
use Rattle.std.specs.Ordering.{is_eq, is_ne, is_lt, is_le, is_gt, is_ge}
use Rattle.std.specs.declared.cmp.Ordering.{Ordering}
use Rattle.semver.specs.Parse.{Parts}
use Rattle.version_ranges.specs.Versions.{precedence, release}
use Rattle.version_ranges.specs.Terms.{Bound, Exact, Span, Term}
use Rattle.version_ranges.specs.declared.condition.Operator.{Operator}
use Rattle.version_ranges.specs.declared.condition.Operator.TheVariants.{Equal, Unequal, Below, AtMost, Above, AtLeast}
use Rattle.version_ranges.specs.declared.condition.Wildcard.{Wildcard}
use Rattle.version_ranges.specs.declared.condition.Wildcard.TheVariants.{OfMajor, OfMinor}

-- The span of `M.x` begins at M.0.0, and that of `M.m.x` at M.m.0.
abbrev pub start_of : Wildcard → Parts
start_of (OfMajor major) = release major 0 0
start_of (OfMinor major minor) = release major minor 0

-- The span of `M.x` ends before (M + 1).0.0, and that of `M.m.x` before M.(m + 1).0.
abbrev pub end_of : Wildcard → Parts
end_of (OfMajor major) = release (major + 1) 0 0
end_of (OfMinor major minor) = release major (minor + 1) 0

-- What an operator asks of a version's order to the version beside the operator.
abbrev pub meets_version : Operator → Ordering → Bool
meets_version Equal order = is_eq order
meets_version Unequal order = is_ne order
meets_version Below order = is_lt order
meets_version AtMost order = is_le order
meets_version Above order = is_gt order
meets_version AtLeast order = is_ge order

-- What an operator asks of a version's order to the start and to the end of a span.
abbrev pub meets_span : Operator → Ordering → Ordering → Bool
meets_span Equal to_start to_end = is_ge to_start && is_lt to_end
meets_span Unequal to_start to_end = is_lt to_start || is_ge to_end
meets_span Below to_start to_end = is_lt to_start
meets_span AtMost to_start to_end = is_lt to_end
meets_span Above to_start to_end = is_ge to_end
meets_span AtLeast to_start to_end = is_ge to_start

-- A version and an operator's operand.
abbrev pub meets_bound : Operator → Bound → Parts → Bool
meets_bound operator (Exact bound) version = meets_version operator (precedence version bound)
meets_bound operator (Span wildcard) version =
    meets_span operator (precedence version (start_of wildcard)) (precedence version (end_of wildcard))

-- A condition is true of a version.
abbrev pub meets : Term → Parts → Bool
meets term version = meets_bound term.operator term.bound version

-- A range holds for a version where all conditions of some alternative are true of it.
abbrev pub holds_of : List (List Term) → Parts → Bool
holds_of alternatives version = list_any (list_all (λ term. meets term version)) alternatives
