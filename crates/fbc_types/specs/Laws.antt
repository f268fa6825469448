-- What a catalog has that breaks no rule.
use Rattle.std.specs.Prelude.{◌≡◌, ◌&&◌, ℕ, true, false, List, [], ◌∷◌}
use Rattle.std.specs.List.{All, list_any}
use Rattle.std.specs.Option.{option_map_or}
use Rattle.fbc_types.specs.Texts.{same, is_range, is_version, is_bad_property, own_versions}
use Rattle.fbc_types.specs.Channels.{heads, chain, has_name_twice, is_reached}
use Rattle.fbc_types.specs.Rules.{broken, is_bundle_of, is_channel_of}
use Rattle.fbc_types.specs.declared.catalog.Catalog.{Catalog}
use Rattle.fbc_types.specs.declared.catalog.Channel.{Channel}
use Rattle.fbc_types.specs.declared.catalog.Entry.{Entry}
use Rattle.fbc_types.specs.declared.catalog.Bundle.{Bundle}

abbrev pub IsValid : Catalog → Type 0
IsValid catalog = broken catalog ≡ []

-- The bundle gives one version of its own package, which is a version.
abbrev pub HasOneVersion : Bundle → Type 0
HasOneVersion bundle = (text : List ℕ) × (own_versions bundle ≡ text ∷ []) × (is_version text ≡ true)

-- Each bundle has one version, and its texts of versions and ranges are such.
abbrev pub BundlesAreRead : Type 0
BundlesAreRead =
    (catalog : Catalog) → IsValid catalog →
    All (λ bundle. HasOneVersion bundle × (list_any is_bad_property bundle.properties ≡ false)) catalog.bundles

-- The channel has one head, no name stands twice on its chain, and each entry is on the chain or skipped.
abbrev pub HasChain : Channel → Type 0
HasChain channel =
    (head : Entry) × (heads channel.entries ≡ head ∷ [])
    × (has_name_twice (chain channel.entries head) ≡ false)
    × All (λ entry. is_reached channel.entries head entry ≡ true) channel.entries

abbrev pub ChannelsHaveChains : Type 0
ChannelsHaveChains = (catalog : Catalog) → IsValid catalog → All HasChain catalog.channels

-- The entry is a bundle of this package, and its range is one.
abbrev pub IsBundleOf : List Bundle → List ℕ → Entry → Type 0
IsBundleOf bundles name entry =
    (list_any (λ bundle. is_bundle_of name bundle && same bundle.name entry.name) bundles ≡ true)
    × (option_map_or is_range entry.skip_range true ≡ true)

-- Each entry has its bundle, and no channel has an entry twice.
abbrev pub EntriesAreBundles : Type 0
EntriesAreBundles =
    (catalog : Catalog) → IsValid catalog →
    All
    (λ channel. (has_name_twice channel.entries ≡ false) × All (IsBundleOf catalog.bundles channel.«package») channel.entries)
    catalog.channels

-- Each package has its default channel.
abbrev pub PackagesHaveDefaults : Type 0
PackagesHaveDefaults =
    (catalog : Catalog) → IsValid catalog →
    All
    (λ package_blob.
    list_any (λ channel. is_channel_of package_blob.name channel && same channel.name package_blob.default_channel)
    catalog.channels ≡ true)
    catalog.packages
