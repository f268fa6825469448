-- Upgrades by entries in channel order whose ranges were read.
use Rattle.std.proofs.Common.{◌≡◌, ℕ, false, List, [], Option, Some, None, Result, Ok, Err, refl, ap, ◌∙◌}
use Rattle.std.specs.Option.{option_and_then, option_map, option_map_or}
use Rattle.std.specs.Result.{result_ok}
use Rattle.semver.specs.Parse.{Parts}
use Rattle.version_ranges.specs.Conditions.{holds_of}
use Rattle.version_ranges.specs.Reading.{reading}
use Rattle.version_ranges.specs.Terms.{Term}
use Rattle.version_ranges.specs.declared.fault.RangeFault.{RangeFault}
use Rattle.fbc_types.specs.declared.catalog.Bundle.{Bundle}
use Rattle.fbc_types.specs.declared.catalog.Catalog.{Catalog}
use Rattle.fbc_types.specs.declared.catalog.Channel.{Channel}
use Rattle.upgrade_graph.specs.Order.{channel_named, in_order, names, order, ordered}
use Rattle.upgrade_graph.specs.Placed.{IsPlaced, range_of}
use Rattle.upgrade_graph.specs.Upgrades.{is_in, skips_version, upgrades, upgrades_among}
use Rattle.upgrade_graph.specs.declared.placed.Placed.{Placed}

by_reading : (version : Parts) (read : Result (List (List Term)) RangeFault) → option_map_or (λ terms. holds_of terms version) (result_ok read) false ≡ is_in version read
by_reading version (Ok range) = refl
by_reading version (Err fault) = refl

by_text : (version : Parts) (range : Option (List ℕ)) → option_map_or (λ terms. holds_of terms version) (option_and_then range_of range) false ≡ option_map_or (λ text. is_in version (reading text)) range false
by_text version None = refl
by_text version (Some text) = by_reading version (reading text)

-- whether a version is in the range that was read
pub placed_skips : (version : Parts) (placed : Placed) → IsPlaced placed → option_map_or (λ terms. holds_of terms version) placed.range false ≡ skips_version version placed.entry.now
placed_skips version placed h =
    ap (λ range. option_map_or (λ terms. holds_of terms version) range false) h ∙ by_text version placed.entry.now.skip_range

by_channel : (bundles : List Bundle) (name : List ℕ) (version : Parts) (found : Option Channel)
    → option_map_or (λ (channel : Channel). names (upgrades_among (in_order bundles channel) name version)) found []
    ≡ option_map_or (λ entries. names (upgrades_among entries name version)) (option_map (in_order bundles) found) []
by_channel bundles name version None = refl
by_channel bundles name version (Some channel) = refl

-- the upgrades by the channel's entries in their order
pub upgrades_are : (catalog : Catalog) (owner channel name : List ℕ) (version : Parts)
    → upgrades catalog owner channel name version ≡ option_map_or (λ entries. names (upgrades_among entries name version)) (ordered catalog owner channel) []
upgrades_are catalog owner channel name version = by_channel catalog.bundles name version (channel_named catalog.channels owner channel)

named : (bundles : List Bundle) (found : Option Channel) → option_map (λ (channel : Channel). names (in_order bundles channel)) found ≡ option_map names (option_map (in_order bundles) found)
named bundles None = refl
named bundles (Some channel) = refl

-- the names in channel order
pub order_is : (catalog : Catalog) (owner channel : List ℕ) → order catalog owner channel ≡ option_map names (ordered catalog owner channel)
order_is catalog owner channel = named catalog.bundles (channel_named catalog.channels owner channel)
