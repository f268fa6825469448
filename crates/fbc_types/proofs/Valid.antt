-- What a catalog has that breaks no rule.
use Rattle.std.proofs.Common.{◌≡◌, ◌==◌, ◌&&◌, ℕ, nat_le, Bool, true, false, not, if◌then◌else◌, List, [], ◌∷◌, ◌++◌, length, refl, sym, ap, ◌∙◌, subst, arith, suc, get_or, Option, Some, None}
use Rattle.std.specs.List.{All, flat_map, list_all, list_any}
use Rattle.std.specs.Option.{option_map_or}
use Rattle.std.proofs.lemmas.Bool.{le-leb, eqb-true}
use Rattle.std.proofs.lemmas.List.Folds.{list_all-append, list_any-append}
use Rattle.fbc_types.proofs.Lists.{nil_of_append, unbroken, true_of_not, false_of_or, each_unbroken}
use Rattle.fbc_types.specs.Texts.{same, is_range, is_version, is_bad_property, versions_for, own_versions}
use Rattle.fbc_types.specs.Channels.{heads, chain, has_name, has_name_twice, is_reached}
use Rattle.fbc_types.specs.Rules.{broken, where_broken, by_earlier, by_head, repeated_package, repeated_channel, repeated_bundle, repeated_entry, no_channel, no_default, no_bundle, no_entry, no_head, many_heads, circle, stranded, stranded_entry, not_one_version, bad_entry, bad_bundle, by_entries, of_entry, of_channel, is_bundle_of, is_channel_of}
use Rattle.fbc_types.specs.Laws.{IsValid, HasOneVersion, HasChain, IsBundleOf}
use Rattle.fbc_types.specs.declared.catalog.Catalog.{Catalog}
use Rattle.fbc_types.specs.declared.catalog.Channel.{Channel}
use Rattle.fbc_types.specs.declared.catalog.Entry.{Entry}
use Rattle.fbc_types.specs.declared.catalog.Bundle.{Bundle}
use Rattle.fbc_types.specs.declared.property.Property.{Property}
use Rattle.fbc_types.specs.declared.property.Property.TheVariants as property

-- each rule by itself
pub record Kept (catalog : Catalog) : Type 0 where
  pub repeated_entries : flat_map (λ channel. by_earlier (repeated_entry channel) [] channel.entries) catalog.channels ≡ []
  pub channels : flat_map (no_channel catalog.channels) catalog.packages ≡ []
  pub defaults : flat_map (no_default catalog.channels) catalog.packages ≡ []
  pub bundles : by_entries (no_bundle catalog.bundles) catalog.channels ≡ []
  pub some_head : flat_map no_head catalog.channels ≡ []
  pub one_head : flat_map many_heads catalog.channels ≡ []
  pub no_circle : flat_map circle catalog.channels ≡ []
  pub reached : flat_map stranded catalog.channels ≡ []
  pub one_version : flat_map not_one_version catalog.bundles ≡ []
  pub entries : by_entries bad_entry catalog.channels ≡ []
  pub properties : flat_map bad_bundle catalog.bundles ≡ []

pub kept : (catalog : Catalog) → IsValid catalog → Kept catalog
unfolding broken
kept catalog h =
    let first = nil_of_append (by_earlier repeated_package [] catalog.packages) _ h in
    let second = nil_of_append (by_earlier repeated_channel [] catalog.channels) _ first.1 in
    let third = nil_of_append (by_earlier repeated_bundle [] catalog.bundles) _ second.1 in
    let fourth = nil_of_append (flat_map (λ channel. by_earlier (repeated_entry channel) [] channel.entries) catalog.channels) _ third.1 in
    let fifth = nil_of_append (flat_map (no_channel catalog.channels) catalog.packages) _ fourth.1 in
    let sixth = nil_of_append (flat_map (no_default catalog.channels) catalog.packages) _ fifth.1 in
    let seventh = nil_of_append (by_entries (no_bundle catalog.bundles) catalog.channels) _ sixth.1 in
    let eighth = nil_of_append (flat_map (no_entry catalog.channels) catalog.bundles) _ seventh.1 in
    let ninth = nil_of_append (flat_map no_head catalog.channels) _ eighth.1 in
    let tenth = nil_of_append (flat_map many_heads catalog.channels) _ ninth.1 in
    let eleventh = nil_of_append (flat_map circle catalog.channels) _ tenth.1 in
    let twelfth = nil_of_append (flat_map stranded catalog.channels) _ eleventh.1 in
    let thirteenth = nil_of_append (flat_map not_one_version catalog.bundles) _ twelfth.1 in
    let fourteenth = nil_of_append (by_entries bad_entry catalog.channels ++ flat_map bad_bundle catalog.bundles) _ thirteenth.1 in
    let texts = nil_of_append (by_entries bad_entry catalog.channels) _ fourteenth.0 in
    record {
      repeated_entries = fourth.0;
      channels = fifth.0;
      defaults = sixth.0;
      bundles = seventh.0;
      some_head = ninth.0;
      one_head = tenth.0;
      no_circle = eleventh.0;
      reached = twelfth.0;
      one_version = thirteenth.0;
      entries = texts.0;
      properties = texts.1;
    }

-- texts of a property that names no bad one
good_where : (b : Bool) (text : List ℕ) → is_version text ≡ true → list_all is_version (if b then text ∷ [] else []) ≡ true
good_where false text h = refl
good_where true text h = ap (λ b. b && true) h

good_property : (name : List ℕ) (p : Property) → is_bad_property p ≡ false → list_all is_version (versions_for name p) ≡ true
good_property name (property.Package other version) h = good_where (same other name) version (true_of_not (is_version version) h)
good_property name (property.Kind kind) h = refl
good_property name (property.NeedKind kind) h = refl
good_property name (property.NeedPackage other range) h = refl
good_property name (property.Constraint constraint) h = refl
good_property name (property.Manifest body) h = refl
good_property name (property.Other label) h = refl

good_properties : (name : List ℕ) (ps : List Property) → list_any is_bad_property ps ≡ false → list_all is_version (flat_map (versions_for name) ps) ≡ true
good_properties name [] h = refl
good_properties name (p ∷ ps) h =
    let parts = false_of_or (is_bad_property p) (list_any is_bad_property ps) h in
    list_all-append is_version (versions_for name p) (flat_map (versions_for name) ps)
    ∙ (let first = good_property name p parts.0 in let others = good_properties name ps parts.1 in rw first others)

true_of_and : (b : Bool) → (b && true) ≡ true → b ≡ true
true_of_and true h = refl
true_of_and false h = h

one_text : (texts : List (List ℕ)) → list_all is_version texts ≡ true → (length texts == 1) ≡ true → (text : List ℕ) × (texts ≡ text ∷ []) × (is_version text ≡ true)
one_text [] good h = absurd (let bad : false ≡ true = h in cc)
one_text (text ∷ []) good h = (text, refl, true_of_and (is_version text) good)
one_text (text ∷ other ∷ others) good h = absurd (omega (arith, eqb-true (suc (suc (length others))) 1 h))

has_one_version : (bundle : Bundle) → list_any is_bad_property bundle.properties ≡ false → (length (own_versions bundle) == 1) ≡ true → HasOneVersion bundle
has_one_version bundle good h = one_text (own_versions bundle) (good_properties bundle.«package» bundle.properties good) h

pub bundles_are_read : (catalog : Catalog) → IsValid catalog → All (λ bundle. HasOneVersion bundle × (list_any is_bad_property bundle.properties ≡ false)) catalog.bundles
bundles_are_read catalog h k d below =
    let all = kept catalog h in
    let good = each_unbroken bad_bundle (λ bundle. list_any is_bad_property bundle.properties ≡ false) (λ bundle. unbroken _ _) catalog.bundles all.properties k d below in
    let one = each_unbroken not_one_version (λ bundle. (length (own_versions bundle) == 1) ≡ true) (λ bundle e. true_of_not _ (unbroken _ _ e)) catalog.bundles all.one_version k d below in
    (has_one_version (get_or catalog.bundles k d) good one, good)

-- a channel with these heads
has_chain : (blob : Channel) (found : List Entry) → heads blob.entries ≡ found
    → (length found == 0) ≡ false → nat_le 2 (length found) ≡ false
    → by_head (λ head. where_broken (has_name_twice (chain blob.entries head)) (of_channel 11 blob)) found ≡ []
    → by_head (λ head. if has_name_twice (chain blob.entries head) then [] else flat_map (stranded_entry blob head) blob.entries) found ≡ []
    → HasChain blob
has_chain blob [] is some one round reached = absurd (let bad : true ≡ false = some in cc)
has_chain blob (head ∷ []) is some one round reached =
    let straight = unbroken (has_name_twice (chain blob.entries head)) (of_channel 11 blob) round in
    let others : flat_map (stranded_entry blob head) blob.entries ≡ [] =
    subst (λ b. (if b then [] else flat_map (stranded_entry blob head) blob.entries) ≡ []) straight reached in
    (head, is, straight, each_unbroken (stranded_entry blob head) (λ entry. is_reached blob.entries head entry ≡ true) (λ entry e. true_of_not _ (unbroken _ _ e)) blob.entries others)
has_chain blob (head ∷ other ∷ others) is some one round reached = absurd (let bad : true ≡ false = sym (le-leb 2 (suc (suc (length others))) (omega arith)) ∙ one in cc)

pub channels_have_chains : (catalog : Catalog) → IsValid catalog → All HasChain catalog.channels
channels_have_chains catalog h k d below =
    let all = kept catalog h in
    let some = each_unbroken no_head (λ blob. (length (heads blob.entries) == 0) ≡ false) (λ blob. unbroken _ _) catalog.channels all.some_head k d below in
    let one = each_unbroken many_heads (λ blob. nat_le 2 (length (heads blob.entries)) ≡ false) (λ blob. unbroken _ _) catalog.channels all.one_head k d below in
    let round = each_unbroken circle (λ blob. circle blob ≡ []) (λ blob e. e) catalog.channels all.no_circle k d below in
    let reached = each_unbroken stranded (λ blob. stranded blob ≡ []) (λ blob e. e) catalog.channels all.reached k d below in
    has_chain _ _ refl some one round reached

-- an entry that is among the earlier ones shares its name with no later one
apart : (blob : Channel) (first : Entry) (earlier entries : List Entry)
    → ((name : List ℕ) → has_name name earlier ≡ false → same first.name name ≡ false)
    → by_earlier (repeated_entry blob) earlier entries ≡ [] → list_any (λ other. same first.name other.name) entries ≡ false
apart blob first earlier [] among h = refl
apart blob first earlier (entry ∷ entries) among h =
    let parts = nil_of_append (repeated_entry blob earlier entry) _ h in
    let here = among entry.name (unbroken (has_name entry.name earlier) (of_entry 4 blob entry) parts.0) in
    let wider : (name : List ℕ) → has_name name (earlier ++ entry ∷ []) ≡ false → same first.name name ≡ false =
    λ name e. among name (false_of_or (has_name name earlier) (has_name name (entry ∷ [])) (sym (list_any-append (λ other. same other.name name) earlier (entry ∷ [])) ∙ e)).0 in
    let later = apart blob first (earlier ++ entry ∷ []) entries wider parts.1 in
    rw here later

names_once : (blob : Channel) (earlier entries : List Entry) → by_earlier (repeated_entry blob) earlier entries ≡ [] → has_name_twice entries ≡ false
names_once blob earlier [] h = refl
names_once blob earlier (entry ∷ entries) h =
    let parts = nil_of_append (repeated_entry blob earlier entry) _ h in
    let among : (name : List ℕ) → has_name name (earlier ++ entry ∷ []) ≡ false → same entry.name name ≡ false =
    λ name e. (false_of_or (same entry.name name) false (false_of_or (has_name name earlier) (has_name name (entry ∷ [])) (sym (list_any-append (λ other. same other.name name) earlier (entry ∷ [])) ∙ e)).1).0 in
    let here = apart blob entry (earlier ++ entry ∷ []) entries among parts.1 in
    let later = names_once blob (earlier ++ entry ∷ []) entries parts.1 in
    rw here later

good_range : (range : Option (List ℕ)) → option_map_or (λ text. not (is_range text)) range false ≡ false → option_map_or is_range range true ≡ true
good_range None h = refl
good_range (Some text) h = true_of_not (is_range text) h

pub entries_are_bundles : (catalog : Catalog) → IsValid catalog → All (λ channel. (has_name_twice channel.entries ≡ false) × All (IsBundleOf catalog.bundles channel.«package») channel.entries) catalog.channels
entries_are_bundles catalog h k d below =
    let all = kept catalog h in
    let once = each_unbroken (λ channel. by_earlier (repeated_entry channel) [] channel.entries) (λ channel. has_name_twice channel.entries ≡ false) (λ channel. names_once channel [] channel.entries) catalog.channels all.repeated_entries k d below in
    let found = each_unbroken (λ channel. flat_map (no_bundle catalog.bundles channel) channel.entries) (λ channel. All (λ entry. list_any (λ bundle. is_bundle_of channel.«package» bundle && same bundle.name entry.name) catalog.bundles ≡ true) channel.entries) (λ channel. each_unbroken (no_bundle catalog.bundles channel) (λ entry. list_any (λ bundle. is_bundle_of channel.«package» bundle && same bundle.name entry.name) catalog.bundles ≡ true) (λ entry b. true_of_not _ (unbroken _ _ b)) channel.entries) catalog.channels all.bundles k d below in
    let read = each_unbroken (λ channel. flat_map (bad_entry channel) channel.entries) (λ channel. All (λ entry. option_map_or is_range entry.skip_range true ≡ true) channel.entries) (λ channel. each_unbroken (bad_entry channel) (λ entry. option_map_or is_range entry.skip_range true ≡ true) (λ entry b. good_range entry.skip_range (unbroken _ _ b)) channel.entries) catalog.channels all.entries k d below in
    (once, λ i e inside. (found i e inside, read i e inside))

default_there : (some default : Bool) → not some ≡ false → (some && not default) ≡ false → default ≡ true
default_there true default h e = true_of_not default e
default_there false default h e = absurd (let bad : true ≡ false = h in cc)

pub packages_have_defaults : (catalog : Catalog) → IsValid catalog → All (λ blob. list_any (λ channel. is_channel_of blob.name channel && same channel.name blob.default_channel) catalog.channels ≡ true) catalog.packages
packages_have_defaults catalog h k d below =
    let all = kept catalog h in
    let some = each_unbroken (no_channel catalog.channels) (λ blob. not (list_any (is_channel_of blob.name) catalog.channels) ≡ false) (λ blob. unbroken _ _) catalog.packages all.channels k d below in
    let default = each_unbroken (no_default catalog.channels) (λ blob. (list_any (is_channel_of blob.name) catalog.channels && not (list_any (λ channel. is_channel_of blob.name channel && same channel.name blob.default_channel) catalog.channels)) ≡ false) (λ blob. unbroken _ _) catalog.packages all.defaults k d below in
    default_there _ _ some default
