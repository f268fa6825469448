-- What a bundle or an installed version provides, and what it is of a bundle.
use Rattle.std.specs.Prelude.{ℕ, Bool, false, not, ◌&&◌, List, [], ◌∷◌, Option, Some, None}
use Rattle.std.specs.List.{filter, filter_map, list_any}
use Rattle.std.specs.Option.{option_map, option_map_or}
use Rattle.semver.specs.Identifiers.{parts_of}
use Rattle.semver.specs.Parse.{Parts}
use Rattle.olm_base.specs.declared.gvk.Gvk.{Gvk}
use Rattle.fbc_types.specs.Texts.{same, version_in}
use Rattle.fbc_types.specs.declared.catalog.Bundle.{Bundle}
use Rattle.fbc_types.specs.declared.property.Property.{Property}
use Rattle.fbc_types.specs.declared.property.Property.TheVariants as property
use Rattle.op_properties.specs.declared.offer.Offer.{Offer}

-- What is provided: a package, where it is known, a version, and kinds.
pub record Provided : Type 0 where
  pub «package» : Option (List ℕ)
  pub version : Parts
  pub kinds : List Gvk

-- What an offer provides, its version seen as its numbers and texts.
abbrev pub shown : Offer → Provided
shown offer = record { «package» = offer.«package»; version = parts_of offer.version; kinds = offer.kinds }

-- The same group, version and kind.
abbrev pub same_kind : Gvk → Gvk → Bool
same_kind kind other = same kind.group other.group && same kind.version other.version && same kind.kind other.kind

-- A kind stands among these.
abbrev pub is_among : Gvk → List Gvk → Bool
is_among kind kinds = list_any (same_kind kind) kinds

-- The package is known, and is this one.
abbrev pub is_of : List ℕ → Option (List ℕ) → Bool
is_of name known = option_map_or (same name) known false

-- The kind that a property gives.
abbrev pub kind_of : Property → Option Gvk
kind_of (property.Package name version) = None
kind_of (property.Kind kind) = Some kind
kind_of (property.NeedKind kind) = None
kind_of (property.NeedPackage name range) = None
kind_of (property.Constraint constraint) = None
kind_of (property.Manifest body) = None
kind_of (property.Other label) = None

-- Each kind once, where it first stands.
abbrev pub each_once : List Gvk → List Gvk
each_once [] = []
each_once (kind ∷ kinds) = kind ∷ filter (λ other. not (same_kind kind other)) (each_once kinds)

abbrev pub kinds_of : List Property → List Gvk
kinds_of properties = each_once (filter_map kind_of properties)

-- What a bundle provides. It has its one version in each catalog that breaks no rule.
abbrev pub offer_of : Bundle → Option Provided
offer_of bundle =
    option_map
    (λ version. record { «package» = Some bundle.«package»; version = version; kinds = kinds_of bundle.properties })
    (version_in bundle)
