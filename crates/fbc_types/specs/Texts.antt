-- The texts of versions and ranges in a catalog.
use Rattle.std.specs.Prelude.{ℕ, Bool, false, not, nat_eq, if◌then◌else◌, List, [], ◌∷◌, Option, slice_get}
use Rattle.std.specs.Cmp.Lexicographic.{pointwise}
use Rattle.std.specs.List.{flat_map, list_any}
use Rattle.std.specs.Option.{is_some, option_and_then}
use Rattle.std.specs.Result.{is_ok}
use Rattle.semver.specs.Parse.{Parts}
use Rattle.version_ranges.specs.Reading.{reading}
use Rattle.version_ranges.specs.Words.{version_of}
use Rattle.fbc_types.specs.declared.catalog.Bundle.{Bundle}
use Rattle.fbc_types.specs.declared.property.Property.{Property}
use Rattle.fbc_types.specs.declared.property.Property.TheVariants as property
use Rattle.fbc_types.specs.declared.property.RawConstraint.{RawConstraint, fold-RawConstraint}
use Rattle.fbc_types.specs.declared.property.RawConstraint.TheOpen.{RawConstraint-F}

-- Two texts are the same.
abbrev pub same : List ℕ → List ℕ → Bool
same text other = pointwise nat_eq text other

-- A name stands among these.
abbrev pub is_among : List ℕ → List (List ℕ) → Bool
is_among name names = list_any (λ other. same other name) names

-- The text is a version of Semantic Versioning 2.0.0, with major, minor and patch numbers below 2 ^ 64.
abbrev pub is_version : List ℕ → Bool
is_version text = is_some (version_of text)

-- The text is a range of versions.
abbrev pub is_range : List ℕ → Bool
is_range text = is_ok (reading text)

-- Some range that a constraint names, itself or in those that it holds, is no range.
abbrev pub names_bad_range : RawConstraint-F Bool → Bool
names_bad_range (RawConstraint-F.Package name range) = not (is_range range)
names_bad_range (RawConstraint-F.Kind kind) = false
names_bad_range (RawConstraint-F.All members) = list_any (λ member. member) members
names_bad_range (RawConstraint-F.Any members) = list_any (λ member. member) members
names_bad_range (RawConstraint-F.Not members) = list_any (λ member. member) members
names_bad_range (RawConstraint-F.Cel rule) = false
names_bad_range RawConstraint-F.Unknown = false

unfoldable pub has_bad_range : RawConstraint → Bool
has_bad_range = fold-RawConstraint Bool names_bad_range

-- A property that names a version that is none, or a range that is none.
abbrev pub is_bad_property : Property → Bool
is_bad_property (property.Package name version) = not (is_version version)
is_bad_property (property.Kind kind) = false
is_bad_property (property.NeedKind kind) = false
is_bad_property (property.NeedPackage name range) = not (is_range range)
is_bad_property (property.Constraint constraint) = has_bad_range constraint
is_bad_property (property.Manifest body) = false
is_bad_property (property.Other label) = false

-- The version texts that the property gives for this package.
abbrev pub versions_for : List ℕ → Property → List (List ℕ)
versions_for name (property.Package other version) = if same other name then version ∷ [] else []
versions_for name (property.Kind kind) = []
versions_for name (property.NeedKind kind) = []
versions_for name (property.NeedPackage other range) = []
versions_for name (property.Constraint constraint) = []
versions_for name (property.Manifest body) = []
versions_for name (property.Other label) = []

-- The version texts that a bundle gives for its own package.
abbrev pub own_versions : Bundle → List (List ℕ)
own_versions bundle = flat_map (versions_for bundle.«package») bundle.properties

-- The version text that a bundle gives for its own package, the first. By the rules there is exactly one.
abbrev pub own_version : Bundle → Option (List ℕ)
own_version bundle = slice_get (own_versions bundle) 0

-- The version that this text writes. By the rules there is one.
abbrev pub version_in : Bundle → Option Parts
version_in bundle = option_and_then version_of (own_version bundle)
