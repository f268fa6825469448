-- The properties of a bundle.
use Rattle.std.specs.Prelude.{ℕ, nat_eq, Bool, if◌then◌else◌, List, Result, Ok, codes}
use Rattle.std.specs.Cmp.Lexicographic.{pointwise}
use Rattle.serde_json.specs.Data.{Data}
use Rattle.fbc_types.specs.declared.property.Property.{Property}
use Rattle.fbc_types.specs.declared.property.Property.TheVariants as property
use Rattle.json_fields.specs.declared.fault.Fault.{Fault}
use Rattle.fbc_read.specs.declared.properties.Label.{Label}
use Rattle.fbc_read.specs.declared.properties.Label.TheVariants.{Package, Kind, NeedKind, NeedPackage, Manifest, Constraint, Other}
use Rattle.json_fields.specs.Faults.{and_then}
use Rattle.json_fields.specs.Values.{at, into, as_present, fields_of, name_at, text_at, bytes_at, gvk}
use Rattle.fbc_read.specs.Constraints.{constraint}

abbrev pub same : List ℕ → List ℕ → Bool
same text other = pointwise nat_eq text other

-- what a property's type says of its value
abbrev pub label_of : List ℕ → Label
label_of text =
    if same text (codes "olm.package") then Package
    else (if same text (codes "olm.gvk") then Kind
    else (if same text (codes "olm.gvk.required") then NeedKind
    else (if same text (codes "olm.package.required") then NeedPackage
    else (if same text (codes "olm.bundle.object") then Manifest
    else (if same text (codes "olm.constraint") then Constraint
    else Other)))))

abbrev pub package_value : Data → Result Property Fault
package_value value =
    and_then (fields_of value) (λ value.
    and_then (name_at (codes "packageName") value) (λ name.
    and_then (text_at (codes "version") value) (λ version.
    Ok (property.Package name version))))

abbrev pub kind_value : Data → Result Property Fault
kind_value value = and_then (fields_of value) (λ value. and_then (gvk value) (λ kind. Ok (property.Kind kind)))

abbrev pub need_kind_value : Data → Result Property Fault
need_kind_value value = and_then (fields_of value) (λ value. and_then (gvk value) (λ kind. Ok (property.NeedKind kind)))

abbrev pub need_package_value : Data → Result Property Fault
need_package_value value =
    and_then (fields_of value) (λ value.
    and_then (name_at (codes "packageName") value) (λ name.
    and_then (text_at (codes "versionRange") value) (λ range.
    Ok (property.NeedPackage name range))))

abbrev pub manifest_value : Data → Result Property Fault
manifest_value value =
    and_then (fields_of value) (λ value.
    and_then (bytes_at (codes "data") value) (λ body.
    Ok (property.Manifest body)))

abbrev pub test_value : Data → Result Property Fault
test_value value = and_then (constraint value) (λ test. Ok (property.Constraint test))

-- what a property's value gives under its type
abbrev pub property_value : List ℕ → Label → Data → Result Property Fault
property_value text Package value = package_value value
property_value text Kind value = kind_value value
property_value text NeedKind value = need_kind_value value
property_value text NeedPackage value = need_package_value value
property_value text Manifest value = manifest_value value
property_value text Constraint value = test_value value
property_value text Other value = Ok (property.Other text)

abbrev pub property_at : List ℕ → Data → Result Property Fault
property_at text = into as_present (property_value text (label_of text)) (codes "value")

-- a property of a bundle
abbrev pub bundle_property : Data → Result Property Fault
bundle_property value =
    and_then (fields_of value) (λ value.
    and_then (text_at (codes "type") value) (λ text.
    property_at text value))

-- what each property must have, whatever its type: it gives its type
abbrev pub any_property : Data → Result (List ℕ) Fault
any_property value =
    and_then (fields_of value) (λ value.
    and_then (text_at (codes "type") value) (λ text.
    and_then (at as_present (codes "value") value) (λ found.
    Ok text)))
