-- What is read of each bundle of a catalog that breaks no rule.
use Rattle.std.proofs.Common.{◌≡◌, ℕ, true, false, List, [], ◌∷◌, map, get_or, refl, sym, ap, ◌∙◌, subst, Option, Some, None, is_some, IsSome, Result, Ok, Err}
use Rattle.std.specs.Prelude.{slice_get}
use Rattle.std.specs.List.{list_any}
use Rattle.std.specs.Option.{option_and_then, option_map}
use Rattle.std.specs.Result.{is_ok, result_ok}
use Rattle.std.proofs.lemmas.Bool.{or_parts}
use Rattle.version_ranges.specs.Reading.{reading}
use Rattle.version_ranges.specs.Words.{version_of}
use Rattle.version_ranges.specs.Terms.{Term}
use Rattle.version_ranges.specs.declared.fault.RangeFault.{RangeFault}
use Rattle.olm_base.specs.declared.gvk.Gvk.{Gvk}
use Rattle.fbc_types.specs.Laws.{BundlesAreRead, HasOneVersion}
use Rattle.fbc_types.specs.Texts.{has_bad_range, is_bad_property, version_in}
use Rattle.fbc_types.specs.declared.catalog.Bundle.{Bundle}
use Rattle.fbc_types.specs.declared.property.Property.{Property}
use Rattle.fbc_types.specs.declared.property.Property.TheVariants as given
use Rattle.fbc_types.specs.declared.property.RawConstraint.{RawConstraint, map-RawConstraint, roll-RawConstraint}
use Rattle.fbc_types.specs.declared.property.RawConstraint.TheVariants as raw
use Rattle.fbc_types.specs.declared.property.RawConstraint.TheOpen.{RawConstraint-F}
use Rattle.fbc_types.specs.declared.property.RawConstraint.TheFolds.{ind-RawConstraint}
use Rattle.op_properties.specs.Asked.{each_there, range_of, requirement_of, requirements_in}
use Rattle.op_properties.specs.Laws.{EachBundleIsRead}
use Rattle.op_properties.specs.declared.requirement.Requirement.TheVariants as requirement
use Rattle.op_properties.specs.Offers.{offer_of}
use Rattle.fbc_types.proofs.Nested.{bad_package}
use Rattle.op_properties.proofs.Written.{good_package, good_all, good_any, good_not, writes_package, writes_kind, writes_all, writes_any, writes_not, writes_cel, writes_unknown}

abbrev IsReadable : RawConstraint → Type 0
IsReadable constraint = has_bad_range constraint ≡ false → is_some (requirement_of constraint) ≡ true

-- an item is there where what it comes from is
some_map : {A B : Type 0} (f : A → B) (item : Option A) → is_some (option_map f item) ≡ is_some item
some_map f None = refl
some_map f (Some item) = refl

some_read : (read : Result (List (List Term)) RangeFault) → is_some (result_ok read) ≡ is_ok read
some_read (Ok range) = refl
some_read (Err fault) = refl

both_there : {T : Type 0} (first : Option T) (rest : Option (List T)) → is_some first ≡ true → is_some rest ≡ true
    → is_some (option_and_then (λ item. option_map (λ others. item ∷ others) rest) first) ≡ true
both_there None rest some others = absurd (let bad : false ≡ true = some in cc)
both_there (Some item) rest some others = some_map (λ items. item ∷ items) rest ∙ others

abbrev AreReadable : List RawConstraint → Type 0
AreReadable members = list_any has_bad_range members ≡ false → is_some (each_there (map requirement_of members)) ≡ true

are_readable : (members : List ((constraint : RawConstraint) × IsReadable constraint)) → AreReadable (map (λ e. e.0) members)
are_readable [] good = refl
are_readable (member ∷ members) good =
    let parts = or_parts (has_bad_range member.0) (list_any has_bad_range (map (λ e. e.0) members)) good in
    both_there (requirement_of member.0) (each_there (map requirement_of (map (λ e. e.0) members))) (member.1 parts.0) (are_readable members parts.1)

package_readable : (name range : List ℕ) → IsReadable (raw.Package name range)
package_readable name range good =
    ap is_some (writes_package name range) ∙ some_map (requirement.Package name) (range_of range)
    ∙ some_read (reading range) ∙ good_package (raw.Package name range) good name range refl

kind_readable : (kind : Gvk) → is_some (requirement_of (raw.Kind kind)) ≡ true
kind_readable kind = ap is_some (writes_kind kind)

all_readable : (members : List RawConstraint) → AreReadable members → IsReadable (raw.All members)
all_readable members each good =
    ap is_some (writes_all members) ∙ some_map requirement.All (each_there (map requirement_of members)) ∙ each (good_all (raw.All members) good members refl)

any_readable : (members : List RawConstraint) → AreReadable members → IsReadable (raw.Any members)
any_readable members each good =
    ap is_some (writes_any members) ∙ some_map requirement.Any (each_there (map requirement_of members)) ∙ each (good_any (raw.Any members) good members refl)

not_readable : (members : List RawConstraint) → AreReadable members → IsReadable (raw.Not members)
not_readable members each good =
    ap is_some (writes_not members) ∙ some_map requirement.Not (each_there (map requirement_of members)) ∙ each (good_not (raw.Not members) good members refl)

layer_readable : (layer : RawConstraint-F ((constraint : RawConstraint) × IsReadable constraint))
    → IsReadable (roll-RawConstraint (map-RawConstraint ((constraint : RawConstraint) × IsReadable constraint) RawConstraint (λ e. e.0) layer))
layer_readable (RawConstraint-F.Package name range) = subst IsReadable (sym (raw.rolls-Package name range)) (package_readable name range)
layer_readable (RawConstraint-F.Kind kind) = subst IsReadable (sym (raw.rolls-Kind kind)) (λ good. kind_readable kind)
layer_readable (RawConstraint-F.All members) =
    subst IsReadable (sym (raw.rolls-All (map (λ e. e.0) members))) (all_readable (map (λ e. e.0) members) (are_readable members))
layer_readable (RawConstraint-F.Any members) =
    subst IsReadable (sym (raw.rolls-Any (map (λ e. e.0) members))) (any_readable (map (λ e. e.0) members) (are_readable members))
layer_readable (RawConstraint-F.Not members) =
    subst IsReadable (sym (raw.rolls-Not (map (λ e. e.0) members))) (not_readable (map (λ e. e.0) members) (are_readable members))
layer_readable (RawConstraint-F.Cel rule) = subst IsReadable (sym (raw.rolls-Cel rule)) (λ good. ap is_some (writes_cel rule))
layer_readable RawConstraint-F.Unknown = subst IsReadable (sym raw.rolls-Unknown) (λ good. ap is_some writes_unknown)

readable : (constraint : RawConstraint) → IsReadable constraint
readable = ind-RawConstraint IsReadable (λ x y is. subst (λ layer. IsReadable (roll-RawConstraint layer)) is (layer_readable y))

with_property : (p : Property) (properties : List Property) → is_bad_property p ≡ false → IsSome (requirements_in properties) → IsSome (requirements_in (p ∷ properties))
with_property (given.Package name version) properties good others = others
with_property (given.Kind kind) properties good others = others
with_property (given.NeedKind kind) properties good others = both_there _ _ (kind_readable kind) others
with_property (given.NeedPackage name range) properties good others = both_there _ _ (package_readable name range (bad_package name range ∙ good)) others
with_property (given.Constraint constraint) properties good others = both_there _ _ (readable constraint good) others
with_property (given.Manifest body) properties good others = others
with_property (given.Other label) properties good others = others

properties_readable : (properties : List Property) → list_any is_bad_property properties ≡ false → IsSome (requirements_in properties)
properties_readable [] good = refl
properties_readable (p ∷ properties) good =
    let parts = or_parts (is_bad_property p) (list_any is_bad_property properties) good in
    with_property p properties parts.0 (properties_readable properties parts.1)

bundle_offers : (bundle : Bundle) → HasOneVersion bundle → IsSome (offer_of bundle)
bundle_offers bundle (text, own, good) =
    some_map _ (version_in bundle) ∙ ap (λ texts. is_some (option_and_then version_of (slice_get texts 0))) own ∙ good

pub each_bundle : BundlesAreRead → EachBundleIsRead
each_bundle read catalog valid k d below =
    let facts = read catalog valid k d below in
    (properties_readable (get_or catalog.bundles k d).properties facts.1, bundle_offers (get_or catalog.bundles k d) facts.0)
