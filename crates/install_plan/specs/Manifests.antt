-- The manifests of what a resolution takes: the objects of which its plan is made.
use Rattle.std.specs.Prelude.{ℕ, Bool, ◌&&◌, if◌then◌else◌, List, [], ◌∷◌, Option, Some, None}
use Rattle.std.specs.List.{filter_map, find, list_any}
use Rattle.std.specs.Option.{option_and_then, option_map_or}
use Rattle.fbc_types.specs.Rules.{is_bundle_of, is_channel_of}
use Rattle.fbc_types.specs.Texts.{same}
use Rattle.fbc_types.specs.declared.catalog.Bundle.{Bundle}
use Rattle.fbc_types.specs.declared.catalog.Catalog.{Catalog}
use Rattle.fbc_types.specs.declared.catalog.Channel.{Channel}
use Rattle.fbc_types.specs.declared.catalog.Entry.{Entry}
use Rattle.fbc_types.specs.declared.property.Property.{Property}
use Rattle.fbc_types.specs.declared.property.Property.TheVariants as property
use Rattle.cluster_objects.specs.declared.resolutions.Taken.{Taken}
use Rattle.view_basis.specs.declared.visible.Visible.{Visible}

-- the entry is taken from this catalog
abbrev pub is_from : Taken → Visible → Bool
is_from taken visible = same visible.seen.namespace taken.catalog_namespace && same visible.seen.name taken.catalog

-- an entry of the name of what is taken
abbrev pub has_entry : Taken → List Entry → Bool
has_entry taken entries = list_any (λ entry. same entry.name taken.name) entries

-- a channel of the package and name of what is taken lists such an entry
abbrev pub lists : Taken → Channel → Bool
lists taken channel = is_channel_of taken.«package» channel && same channel.name taken.channel && has_entry taken channel.entries

abbrev pub is_listed : Taken → List Channel → Bool
is_listed taken channels = list_any (lists taken) channels

abbrev pub is_taken : Taken → Bundle → Bool
is_taken taken bundle = is_bundle_of taken.«package» bundle && same bundle.name taken.name

-- the bundle that is taken, where the catalog has it
abbrev pub bundle_in : Taken → Catalog → Option Bundle
bundle_in taken catalog = if is_listed taken catalog.channels then find (is_taken taken) catalog.bundles else None

-- the object that a property holds
abbrev pub object_of : Property → Option (List ℕ)
object_of (property.Package name version) = None
object_of (property.Kind kind) = None
object_of (property.NeedKind kind) = None
object_of (property.NeedPackage name range) = None
object_of (property.Constraint constraint) = None
object_of (property.Manifest body) = Some body
object_of (property.Other label) = None

-- the objects of the first blob of manifests with this image
abbrev pub objects_of_image : Catalog → List ℕ → List (List ℕ)
objects_of_image catalog image = option_map_or (λ blob. blob.bodies) (find (λ blob. same blob.image image) catalog.manifests) []

abbrev pub or_else : List (List ℕ) → List (List ℕ) → List (List ℕ)
or_else [] others = others
or_else (body ∷ bodies) others = body ∷ bodies

-- A bundle's own objects in the order of its properties, or, where it has none, those of its image.
abbrev pub objects_in : Catalog → Bundle → List (List ℕ)
objects_in catalog bundle = or_else (filter_map object_of bundle.properties) (objects_of_image catalog bundle.image)

abbrev pub taken_from : Taken → Catalog → List (List ℕ)
taken_from taken catalog = option_map_or (objects_in catalog) (bundle_in taken catalog) []

-- The manifests of what is taken. There are none where no visible catalog has it.
abbrev pub manifests : List Visible → Taken → List (List ℕ)
manifests catalogs taken = option_map_or (taken_from taken) (option_and_then (λ visible. visible.catalog) (find (is_from taken) catalogs)) []
