-- What a bundle's properties ask for.
use Rattle.std.specs.Prelude.{ℕ, List, [], ◌∷◌, map, Option, Some, None}
use Rattle.std.specs.List.{filter_map}
use Rattle.std.specs.Option.{option_and_then, option_map}
use Rattle.std.specs.Result.{result_ok}
use Rattle.version_ranges.specs.Reading.{reading}
use Rattle.version_ranges.specs.Terms.{Term}
use Rattle.fbc_types.specs.declared.catalog.Bundle.{Bundle}
use Rattle.fbc_types.specs.declared.property.Property.{Property}
use Rattle.fbc_types.specs.declared.property.Property.TheVariants as property
use Rattle.fbc_types.specs.declared.property.RawConstraint.{RawConstraint, fold-RawConstraint}
use Rattle.fbc_types.specs.declared.property.RawConstraint.TheVariants as raw
use Rattle.fbc_types.specs.declared.property.RawConstraint.TheOpen.{RawConstraint-F}
use Rattle.op_properties.specs.declared.requirement.Requirement.{Requirement}
use Rattle.op_properties.specs.declared.requirement.Requirement.TheVariants as requirement

-- The range that a text writes, if it writes one.
abbrev pub range_of : List ℕ → Option (List (List Term))
range_of text = result_ok (reading text)

-- All the items, where each is there.
abbrev pub each_there : {T : Type 0} → List (Option T) → Option (List T)
each_there [] = Some []
each_there (item ∷ items) = option_and_then (λ first. option_map (λ others. first ∷ others) (each_there items)) item

-- A package at a version in a range.
abbrev pub package_in : List ℕ → List ℕ → Option Requirement
package_in name range = option_map (requirement.Package name) (range_of range)

-- The requirement that a constraint writes, given what the constraints in it write. A rule in CEL, and a constraint
-- of no known form, ask for what can't be tested.
abbrev pub requirement_by : RawConstraint-F (Option Requirement) → Option Requirement
requirement_by (RawConstraint-F.Package name range) = package_in name range
requirement_by (RawConstraint-F.Kind kind) = Some (requirement.Kind kind)
requirement_by (RawConstraint-F.All members) = option_map requirement.All (each_there members)
requirement_by (RawConstraint-F.Any members) = option_map requirement.Any (each_there members)
requirement_by (RawConstraint-F.Not members) = option_map requirement.Not (each_there members)
requirement_by (RawConstraint-F.Cel rule) = Some requirement.Unsupported
requirement_by RawConstraint-F.Unknown = Some requirement.Unsupported

unfoldable pub requirement_of : RawConstraint → Option Requirement
requirement_of = fold-RawConstraint (Option Requirement) requirement_by

-- What a property asks for, as a constraint.
abbrev pub asked : Property → Option RawConstraint
asked (property.Package name version) = None
asked (property.Kind kind) = None
asked (property.NeedKind kind) = Some (raw.Kind kind)
asked (property.NeedPackage name range) = Some (raw.Package name range)
asked (property.Constraint constraint) = Some constraint
asked (property.Manifest body) = None
asked (property.Other label) = None

-- What properties ask for, in their order. Each range is read in each catalog that breaks no rule.
abbrev pub requirements_in : List Property → Option (List Requirement)
requirements_in properties = each_there (map requirement_of (filter_map asked properties))

abbrev pub requirements_of : Bundle → Option (List Requirement)
requirements_of bundle = requirements_in bundle.properties
