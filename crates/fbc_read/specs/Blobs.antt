-- What one blob gives, by its schema.
use Rattle.std.specs.Prelude.{ℕ, if◌then◌else◌, List, [], ◌∷◌, Option, Some, None, Result, Ok, codes}
use Rattle.serde_json.specs.Data.{Data}
use Rattle.fbc_types.specs.declared.catalog.Package.{Package}
use Rattle.fbc_types.specs.declared.catalog.Channel.{Channel}
use Rattle.fbc_types.specs.declared.catalog.Entry.{Entry}
use Rattle.fbc_types.specs.declared.catalog.Bundle.{Bundle}
use Rattle.fbc_types.specs.declared.catalog.Deprecation.{Deprecation}
use Rattle.fbc_types.specs.declared.catalog.Manifests.{Manifests}
use Rattle.fbc_types.specs.declared.catalog.Catalog.{Catalog}
use Rattle.json_fields.specs.declared.fault.Fault.{Fault}
use Rattle.fbc_read.specs.declared.schemas.Reference.{Reference}
use Rattle.fbc_read.specs.declared.schemas.Schema.{Schema}
use Rattle.fbc_read.specs.declared.schemas.Schema.TheVariants as schema
use Rattle.json_fields.specs.Faults.{and_then}
use Rattle.json_fields.specs.Values.{into, as_fields, fields_of, list_at, opt_list_at, name_at, opt_name_at, text_at, opt_text_at, name_item, bytes_item}
use Rattle.fbc_read.specs.Properties.{same, bundle_property, any_property}

-- a blob of another schema gives nothing
abbrev pub schema_of : List ℕ → Schema
schema_of text =
    if same text (codes "olm.package") then schema.Package
    else (if same text (codes "olm.channel") then schema.Channel
    else (if same text (codes "olm.bundle") then schema.Bundle
    else (if same text (codes "olm.deprecations") then schema.Deprecations
    else (if same text (codes "local.manifests") then schema.Manifests
    else schema.Other))))

-- `olm.package`
abbrev pub package_blob : Data → Result Package Fault
package_blob blob =
    and_then (name_at (codes "name") blob) (λ name.
    and_then (name_at (codes "defaultChannel") blob) (λ channel.
    Ok (record { name = name; default_channel = channel })))

abbrev pub entry : Data → Result Entry Fault
entry value =
    and_then (fields_of value) (λ value.
    and_then (name_at (codes "name") value) (λ name.
    and_then (opt_name_at (codes "replaces") value) (λ replaces.
    and_then (opt_list_at name_item (codes "skips") value) (λ skips.
    and_then (opt_text_at (codes "skipRange") value) (λ range.
    Ok (record { name = name; replaces = replaces; skips = skips; skip_range = range }))))))

-- `olm.channel`
abbrev pub channel_blob : Data → Result Channel Fault
channel_blob blob =
    and_then (name_at (codes "package") blob) (λ owner.
    and_then (name_at (codes "name") blob) (λ name.
    and_then (list_at entry (codes "entries") blob) (λ entries.
    Ok (record { «package» = owner; name = name; entries = entries }))))

-- a text that is absent is empty here
abbrev pub or_empty : Option (List ℕ) → List ℕ
or_empty None = []
or_empty (Some text) = text

-- `olm.bundle`
abbrev pub bundle_blob : Data → Result Bundle Fault
bundle_blob blob =
    and_then (name_at (codes "package") blob) (λ owner.
    and_then (name_at (codes "name") blob) (λ name.
    and_then (opt_text_at (codes "image") blob) (λ image.
    and_then (opt_list_at bundle_property (codes "properties") blob) (λ properties.
    Ok (record { «package» = owner; name = name; image = or_empty image; properties = properties })))))

-- what an entry of `olm.deprecations` speaks of
abbrev pub reference : Data → Result Reference Fault
reference value =
    and_then (text_at (codes "schema") value) (λ schema.
    and_then (opt_name_at (codes "name") value) (λ name.
    Ok (record { schema = schema; name = name })))

abbrev pub reference_at : Data → Result Reference Fault
reference_at = into as_fields reference (codes "reference")

abbrev pub deprecation : List ℕ → Data → Result Deprecation Fault
deprecation owner value =
    and_then (fields_of value) (λ value.
    and_then (reference_at value) (λ reference.
    and_then (text_at (codes "message") value) (λ message.
    Ok (record { «package» = owner; schema = reference.schema; name = reference.name; message = message }))))

abbrev pub deprecations_at : List ℕ → Data → Result (List Deprecation) Fault
deprecations_at owner = list_at (deprecation owner) (codes "entries")

-- `olm.deprecations`, which gives one for each entry
abbrev pub deprecations_blob : Data → Result (List Deprecation) Fault
deprecations_blob blob =
    and_then (name_at (codes "package") blob) (λ owner.
    deprecations_at owner blob)

-- `local.manifests`
abbrev pub manifests_blob : Data → Result Manifests Fault
manifests_blob blob =
    and_then (text_at (codes "image") blob) (λ image.
    and_then (list_at bytes_item (codes "data") blob) (λ bodies.
    Ok (record { image = image; bodies = bodies })))

-- the catalog of no blob
abbrev pub nothing : Catalog
nothing = record { packages = []; channels = []; bundles = []; deprecations = []; manifests = [] }

-- the catalog of one blob, by its schema
abbrev pub by_schema : Schema → Data → Result Catalog Fault
by_schema schema.Package blob = and_then (package_blob blob) (λ found. Ok (record nothing { packages = found ∷ [] }))
by_schema schema.Channel blob = and_then (channel_blob blob) (λ found. Ok (record nothing { channels = found ∷ [] }))
by_schema schema.Bundle blob = and_then (bundle_blob blob) (λ found. Ok (record nothing { bundles = found ∷ [] }))
by_schema schema.Deprecations blob = and_then (deprecations_blob blob) (λ found. Ok (record nothing { deprecations = found }))
by_schema schema.Manifests blob = and_then (manifests_blob blob) (λ found. Ok (record nothing { manifests = found ∷ [] }))
by_schema schema.Other blob = Ok nothing

-- what every blob must have, whatever its schema: it gives its schema
abbrev pub any_blob : Data → Result (List ℕ) Fault
any_blob blob =
    and_then (text_at (codes "schema") blob) (λ text.
    and_then (opt_text_at (codes "package") blob) (λ owner.
    and_then (opt_list_at any_property (codes "properties") blob) (λ types.
    Ok text)))

-- The catalog of one blob. What every blob must have is read first, then what its schema asks for.
abbrev pub one_blob : Data → Result Catalog Fault
one_blob blob = and_then (any_blob blob) (λ text. by_schema (schema_of text) blob)
