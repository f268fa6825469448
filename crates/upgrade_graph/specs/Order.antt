-- The order of a channel's entries: the chain from its head, and then the others, the highest version first.
use Rattle.std.specs.Prelude.{ℕ, ◌&&◌, Bool, not, List, [], ◌++◌, map, filter, Option}
use Rattle.std.specs.Cmp.Lexicographic.{slice_cmp}
use Rattle.std.specs.List.{find}
use Rattle.std.specs.Option.{option_and_then, option_map, option_map_or, unwrap_or}
use Rattle.std.specs.Ordering.{is_lt, nat_cmp, ordering_then}
use Rattle.std.specs.declared.cmp.Ordering.{Ordering}
use Rattle.semver.specs.Parse.{Parts}
use Rattle.version_ranges.specs.Versions.{precedence, release}
use Rattle.fbc_types.specs.Texts.{same, version_in}
use Rattle.fbc_types.specs.Channels.{is_head, chain, has_name}
use Rattle.fbc_types.specs.Rules.{is_bundle_of, is_channel_of}
use Rattle.fbc_types.specs.declared.catalog.Catalog.{Catalog}
use Rattle.fbc_types.specs.declared.catalog.Channel.{Channel}
use Rattle.fbc_types.specs.declared.catalog.Entry.{Entry}
use Rattle.fbc_types.specs.declared.catalog.Bundle.{Bundle}
use Rattle.upgrade_graph.specs.Sorting.{sorted}

-- The channel of this package and name. By the rules there is one at most.
abbrev pub channel_named : List Channel → List ℕ → List ℕ → Option Channel
channel_named channels owner name = find (λ channel. is_channel_of owner channel && same channel.name name) channels

-- The bundle of this package and name. By the rules there is one at most.
abbrev pub bundle_named : List Bundle → List ℕ → List ℕ → Option Bundle
bundle_named bundles owner name = find (λ bundle. is_bundle_of owner bundle && same bundle.name name) bundles

-- The version of the bundle of this package and name. By the rules each entry has one.
unfoldable pub version_named : List Bundle → List ℕ → List ℕ → Option Parts
version_named bundles owner name = option_and_then version_in (bundle_named bundles owner name)

-- What decides which of two entries off the chain comes first.
pub record Rank : Type 0 where
  pub version : Parts
  pub name : List ℕ

-- The rank of an entry. Only in a catalog that breaks the rules is there one without a version, which ranks with 0.0.0.
abbrev pub rank : List Bundle → List ℕ → Entry → Rank
rank bundles owner entry =
    record { version = unwrap_or (version_named bundles owner entry.name) (release 0 0 0); name = entry.name }

-- The higher version comes first, by precedence, and of equal ones the lower name.
abbrev pub rank_cmp : Rank → Rank → Ordering
rank_cmp a b = ordering_then (precedence b.version a.version) (slice_cmp nat_cmp a.name b.name)

abbrev pub is_before : List Bundle → List ℕ → Entry → Entry → Bool
is_before bundles owner entry other = is_lt (rank_cmp (rank bundles owner entry) (rank bundles owner other))

-- The chain of the channel's head. By the rules there is one head.
unfoldable pub main_chain : List Entry → List Entry
main_chain entries = option_map_or (chain entries) (find (is_head entries) entries) []

-- The entries whose names aren't on the chain, as they stand in the channel.
abbrev pub off_chain : List Entry → List Entry
off_chain entries = filter (λ entry. not (has_name entry.name (main_chain entries))) entries

-- The channel's entries in channel order.
unfoldable pub in_order : List Bundle → Channel → List Entry
in_order bundles channel =
    main_chain channel.entries ++ sorted (is_before bundles channel.«package») (off_chain channel.entries)

-- The entries of the channel of this package and name in channel order, where there is such a channel.
abbrev pub ordered : Catalog → List ℕ → List ℕ → Option (List Entry)
ordered catalog owner name = option_map (in_order catalog.bundles) (channel_named catalog.channels owner name)

abbrev pub names : List Entry → List (List ℕ)
names entries = map (λ entry. entry.name) entries

-- The names of the channel's entries in channel order, where there is such a channel.
abbrev pub order : Catalog → List ℕ → List ℕ → Option (List (List ℕ))
order catalog owner name =
    option_map (λ channel. names (in_order catalog.bundles channel)) (channel_named catalog.channels owner name)
