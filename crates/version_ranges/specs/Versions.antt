-- The order of versions, by section 11 of Semantic Versioning 2.0.0.
use Rattle.std.specs.Prelude.{ℕ, []}
use Rattle.std.specs.Ordering.{nat_cmp, ordering_then}
use Rattle.std.specs.declared.cmp.Ordering.{Ordering}
use Rattle.semver.specs.Order.{pre_cmp}
use Rattle.semver.specs.Parse.{Parts}

-- By the major, the minor and the patch number, and then by the pre-release. Build text doesn't count.
abbrev pub precedence : Parts → Parts → Ordering
precedence a b =
    ordering_then (nat_cmp a.0 b.0) (ordering_then (nat_cmp a.1 b.1)
    (ordering_then (nat_cmp a.2 b.2) (pre_cmp a.3 b.3)))

-- The version of three numbers, which are whole numbers without a limit, with no pre-release.
abbrev pub release : ℕ → ℕ → ℕ → Parts
release major minor patch = (major, minor, patch, [], [])
