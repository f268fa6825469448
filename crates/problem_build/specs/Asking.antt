-- What the subscriptions of a namespace ask for.
use Rattle.std.specs.Prelude.{ℕ, Bool, true, false, ◌&&◌, List, [], Option, Some, None}
use Rattle.std.specs.List.{find, position}
use Rattle.std.specs.Option.{option_and_then, option_map, option_map_or, option_or}
use Rattle.fbc_types.specs.Texts.{same, is_among}
use Rattle.fbc_types.specs.declared.catalog.Catalog.{Catalog}
use Rattle.fbc_types.specs.declared.catalog.Package.{Package}
use Rattle.cluster_objects.specs.declared.resolutions.Tip.{Tip}
use Rattle.cluster_objects.specs.declared.statuses.SubSpec.{SubSpec}
use Rattle.upgrade_graph.specs.Upgrades.{upgrades}
use Rattle.view_basis.specs.Tips.{is_tip_of, tip_version}
use Rattle.view_basis.specs.declared.visible.Visible.{Visible}
use Rattle.problem_build.specs.Entries.{Entry}
use Rattle.problem_build.specs.declared.asking.Asked.{Asked}

-- The visible catalog that the subscription names. By its key there is one at most.
abbrev pub is_source : SubSpec → Visible → Bool
is_source spec visible = same visible.seen.namespace spec.source_namespace && same visible.seen.name spec.source

abbrev pub source : List Visible → SubSpec → Option Catalog
source catalogs spec = option_and_then (λ visible. visible.catalog) (find (is_source spec) catalogs)

abbrev pub default_channel : List Package → List ℕ → Option (List ℕ)
default_channel packages name = option_map (λ blob. blob.default_channel) (find (λ blob. same blob.name name) packages)

-- The channel that the subscription names, or else the default channel of its package.
abbrev pub channel : Catalog → SubSpec → Option (List ℕ)
channel catalog spec = option_or spec.channel (default_channel catalog.packages spec.«package»)

abbrev pub channel_from : List Visible → SubSpec → Option (List ℕ)
channel_from catalogs spec = option_and_then (λ catalog. channel catalog spec) (source catalogs spec)

-- The installed one of a package: its first tip.
abbrev pub installed : List Tip → List ℕ → Option Tip
installed tips name = find (is_tip_of name) tips

abbrev pub installed_place : List Tip → List ℕ → Option ℕ
installed_place tips name = position (is_tip_of name) tips

-- It may be upgraded. Where nothing is installed, nothing is upgraded.
abbrev pub is_upgradable : List Tip → List ℕ → Bool
is_upgradable tips name = option_map_or (λ tip. tip.succeeded) (installed tips name) false

-- The upgrades from a tip in the subscription's channel, in channel order.
abbrev pub upgrades_in : Catalog → SubSpec → Tip → List (List ℕ)
upgrades_in catalog spec tip =
    option_map_or (λ name. upgrades catalog spec.«package» name tip.name (tip_version tip)) (channel catalog spec) []

-- The upgrades from the installed one. There are none where nothing is installed, or the catalog or the channel isn't there.
abbrev pub upgrades_from : List Visible → List Tip → SubSpec → List (List ℕ)
upgrades_from catalogs tips spec =
    option_map_or (λ tip. option_map_or (λ catalog. upgrades_in catalog spec tip) (source catalogs spec) [])
    (installed tips spec.«package») []

-- The subscription with its channel, the place of the installed one among the tips, whether that one may be upgraded, and the upgrades from it.
abbrev pub asked : List Visible → List Tip → SubSpec → Asked
asked catalogs tips spec =
    record {
      spec = spec;
      channel = channel_from catalogs spec;
      installed = installed_place tips spec.«package»;
      is_upgradable = is_upgradable tips spec.«package»;
      upgrades = upgrades_from catalogs tips spec;
    }

-- The entry stands in the subscription's channel.
abbrev pub is_followed : Asked → Entry → Bool
is_followed asked entry =
    same entry.catalog_namespace asked.spec.source_namespace && same entry.catalog asked.spec.source
    && same entry.«package» asked.spec.«package» && option_map_or (same entry.channel) asked.channel false

-- Whether a name of its channel is a candidate. With nothing installed it is that one with which the subscription starts, where it
-- names one, and each else. From an installed one that may be upgraded its upgrades are, and from any other none is.
abbrev pub is_wanted : Asked → List ℕ → Bool
is_wanted asked name = elim asked.installed [
  | None ↦ option_map_or (same name) asked.spec.starting true
  | Some place ↦ asked.is_upgradable && is_among name asked.upgrades
]

-- The entries that are candidates of the subscription. Behind them its installed one is a candidate too.
abbrev pub is_candidate : Asked → Entry → Bool
is_candidate asked entry = is_followed asked entry && is_wanted asked entry.name

-- The entry is among the upgrades from the installed one.
abbrev pub is_upgrade : Asked → Entry → Bool
is_upgrade asked entry = is_followed asked entry && is_among entry.name asked.upgrades
