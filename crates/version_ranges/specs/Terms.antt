-- What a reader sees of a condition.
use Rattle.semver.specs.Parse.{Parts}
use Rattle.version_ranges.specs.declared.condition.Operator.{Operator}
use Rattle.version_ranges.specs.declared.condition.Wildcard.{Wildcard}

-- A version, or all versions that a wildcard stands for.
pub data Bound : Type 0 where
  Exact : Parts → Bound
  Span : Wildcard → Bound

-- An operator, and what it compares a version with.
pub record Term : Type 0 where
  pub operator : Operator
  pub bound : Bound
