-- Which entries of a channel an installed bundle can be upgraded to.
use Rattle.std.specs.Prelude.{ℕ, ◌||◌, Bool, false, not, List, [], filter, take_while, Result, Ok, Err}
use Rattle.std.specs.Option.{option_map_or}
use Rattle.semver.specs.Parse.{Parts}
use Rattle.version_ranges.specs.Conditions.{holds_of}
use Rattle.version_ranges.specs.Reading.{reading}
use Rattle.version_ranges.specs.Terms.{Term}
use Rattle.version_ranges.specs.declared.fault.RangeFault.{RangeFault}
use Rattle.fbc_types.specs.Texts.{same}
use Rattle.fbc_types.specs.Channels.{takes_over}
use Rattle.fbc_types.specs.declared.catalog.Catalog.{Catalog}
use Rattle.fbc_types.specs.declared.catalog.Entry.{Entry}
use Rattle.upgrade_graph.specs.Order.{channel_named, in_order, names}

-- The version is in the range that was read. By the rules each `skipRange` is a range.
abbrev pub is_in : Parts → Result (List (List Term)) RangeFault → Bool
is_in version (Ok range) = holds_of range version
is_in version (Err fault) = false

-- The version is in the entry's `skipRange`.
abbrev pub skips_version : Parts → Entry → Bool
skips_version version entry = option_map_or (λ text. is_in version (reading text)) entry.skip_range false

-- The entry takes the place of the bundle of this name and version: it replaces it, or skips it, or skips its version.
abbrev pub takes_place : List ℕ → Parts → Entry → Bool
takes_place name version entry = takes_over name entry || skips_version version entry

-- The entries before the one of this name; all of them, where none has it.
abbrev pub entries_before : List ℕ → List Entry → List Entry
entries_before name entries = take_while (λ entry. not (same entry.name name)) entries

-- The upgrades among the entries of a channel in channel order: nearer to the head than the installed one.
abbrev pub upgrades_among : List Entry → List ℕ → Parts → List Entry
upgrades_among entries name version = filter (takes_place name version) (entries_before name entries)

-- The upgrades from the bundle of this name and version, in channel order; none where there is no such channel.
abbrev pub upgrades : Catalog → List ℕ → List ℕ → List ℕ → Parts → List (List ℕ)
upgrades catalog owner channel name version =
    option_map_or
    (λ blob. names (upgrades_among (in_order catalog.bundles blob) name version))
    (channel_named catalog.channels owner channel) []
