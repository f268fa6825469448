-- What holds of all requirements and offers.
use Rattle.std.specs.Prelude.{◌≡◌, ◌↔◌, ℕ, true, List, ◌++◌, map, Some, IsSome, Ok}
use Rattle.std.specs.List.{All, Any, Contains, IsDistinct}
use Rattle.olm_base.specs.declared.gvk.Gvk.{Gvk}
use Rattle.version_ranges.specs.Conditions.{holds_of}
use Rattle.version_ranges.specs.Reading.{reading}
use Rattle.version_ranges.specs.Terms.{Term}
use Rattle.fbc_types.specs.Laws.{IsValid}
use Rattle.fbc_types.specs.declared.catalog.Catalog.{Catalog}
use Rattle.fbc_types.specs.declared.property.Property.{Property}
use Rattle.fbc_types.specs.declared.property.Property.TheVariants as property
use Rattle.fbc_types.specs.declared.property.RawConstraint.{RawConstraint}
use Rattle.fbc_types.specs.declared.property.RawConstraint.TheVariants as raw
use Rattle.op_properties.specs.Asked.{requirement_of, requirements_in, requirements_of}
use Rattle.op_properties.specs.Offers.{Provided, same_kind, kinds_of, offer_of}
use Rattle.op_properties.specs.Passing.{passes}
use Rattle.op_properties.specs.declared.requirement.Requirement.{Requirement}
use Rattle.op_properties.specs.declared.requirement.Requirement.TheVariants as requirement

-- The requirement is met by what is provided.
abbrev pub Passes : Requirement → Provided → Type 0
Passes needed provided = passes needed provided ≡ true

-- Only a known package of that name passes, at a version that the range holds for.
abbrev pub PackagePasses : Type 0
PackagePasses =
    (name : List ℕ) (range : List (List Term)) (provided : Provided) →
    Passes (requirement.Package name range) provided
    ↔ ((provided.«package» ≡ Some name) × (holds_of range provided.version ≡ true))

-- Only what has the kind passes.
abbrev pub KindPasses : Type 0
KindPasses = (kind : Gvk) (provided : Provided) → Passes (requirement.Kind kind) provided ↔ Contains provided.kinds kind

-- Each member, one member, no member. With no members All and Not are met, and Any isn't.
abbrev pub AllPass : Type 0
AllPass =
    (members : List Requirement) (provided : Provided) →
    Passes (requirement.All members) provided ↔ All (λ member. Passes member provided) members

abbrev pub AnyPasses : Type 0
AnyPasses =
    (members : List Requirement) (provided : Provided) →
    Passes (requirement.Any members) provided ↔ Any (λ member. Passes member provided) members

abbrev pub NonePasses : Type 0
NonePasses =
    (members : List Requirement) (provided : Provided) →
    Passes (requirement.Not members) provided ↔ All (λ member. ¬ Passes member provided) members

abbrev pub UnsupportedPasses : Type 0
UnsupportedPasses = (provided : Provided) → ¬ Passes requirement.Unsupported provided

-- No kind stands twice, and the kinds are those of the properties.
abbrev pub KindsAreOnce : Type 0
KindsAreOnce = (properties : List Property) → IsDistinct same_kind (kinds_of properties)

abbrev pub KindsAreGiven : Type 0
KindsAreGiven =
    (properties : List Property) (kind : Gvk) → Contains (kinds_of properties) kind ↔ Contains properties (property.Kind kind)

-- A package in a range is written where the text is that range.
abbrev pub PackageIsWritten : Type 0
PackageIsWritten =
    (name text : List ℕ) (range : List (List Term)) → reading text ≡ Ok range →
    requirement_of (raw.Package name text) ≡ Some (requirement.Package name range)

abbrev pub KindIsWritten : Type 0
KindIsWritten = (kind : Gvk) → requirement_of (raw.Kind kind) ≡ Some (requirement.Kind kind)

-- Each member writes its own, in the same order.
abbrev pub AllIsWritten : Type 0
AllIsWritten =
    (members : List RawConstraint) (written : List Requirement) → map requirement_of members ≡ map Some written →
    requirement_of (raw.All members) ≡ Some (requirement.All written)

abbrev pub AnyIsWritten : Type 0
AnyIsWritten =
    (members : List RawConstraint) (written : List Requirement) → map requirement_of members ≡ map Some written →
    requirement_of (raw.Any members) ≡ Some (requirement.Any written)

abbrev pub NotIsWritten : Type 0
NotIsWritten =
    (members : List RawConstraint) (written : List Requirement) → map requirement_of members ≡ map Some written →
    requirement_of (raw.Not members) ≡ Some (requirement.Not written)

abbrev pub CelIsUnsupported : Type 0
CelIsUnsupported = (rule : List ℕ) → requirement_of (raw.Cel rule) ≡ Some requirement.Unsupported

abbrev pub UnknownIsUnsupported : Type 0
UnknownIsUnsupported = requirement_of raw.Unknown ≡ Some requirement.Unsupported

abbrev pub AsksInOrder : Type 0
AsksInOrder =
    (left right : List Property) (x y : List Requirement) → requirements_in left ≡ Some x → requirements_in right ≡ Some y →
    requirements_in (left ++ right) ≡ Some (x ++ y)

-- In a catalog that breaks no rule there are the requirements and the offer of each bundle.
abbrev pub EachBundleIsRead : Type 0
EachBundleIsRead =
    (catalog : Catalog) → IsValid catalog →
    All (λ bundle. IsSome (requirements_of bundle) × IsSome (offer_of bundle)) catalog.bundles
