-- What is printed of a catalog: how much it holds, which rules it breaks, and the upgrades in a channel.
use Rattle.std.specs.Prelude.{ℕ, ◌&&◌, if◌then◌else◌, List, [], ◌++◌, codes, length, filter, Option, None, Some}
use Rattle.std.specs.Fmt.{decimal}
use Rattle.std.specs.List.{flat_map}
use Rattle.std.specs.Option.{option_and_then, option_map, option_map_or, unwrap_or}
use Rattle.olm_base.specs.Names.{is_name}
use Rattle.fbc_types.specs.Texts.{is_among, own_version}
use Rattle.fbc_types.specs.declared.catalog.Catalog.{Catalog}
use Rattle.fbc_types.specs.declared.fault.CheckFault.{CheckFault}
use Rattle.upgrade_graph.specs.Order.{bundle_named, order, version_named}
use Rattle.upgrade_graph.specs.Upgrades.{upgrades}

-- A valid catalog: how many packages, channels and bundles it has.
abbrev pub counts_line : Catalog → List ℕ
counts_line catalog =
    codes "packages " ++ decimal (length catalog.packages)
    ++ codes " channels " ++ decimal (length catalog.channels)
    ++ codes " bundles " ++ decimal (length catalog.bundles) ++ codes "\n"

-- A further part of what a fault names, where there is one.
abbrev pub part : Option (List ℕ) → List ℕ
part None = []
part (Some name) = codes "/" ++ name

-- A broken rule: its number behind a V, and then the package, the channel, and the entry or bundle, with slashes between them.
abbrev pub rule_words : CheckFault → List ℕ
rule_words fault =
    codes "V" ++ decimal fault.rule ++ codes " " ++ fault.«package» ++ part fault.channel ++ part fault.item

abbrev pub fault_line : CheckFault → List ℕ
fault_line fault = rule_words fault ++ codes "\n"

abbrev pub fault_lines : List CheckFault → List ℕ
fault_lines faults = flat_map fault_line faults

-- The text of the version that the bundle of this package and name gives for its package. In a valid catalog each entry has one.
abbrev pub version_text : Catalog → List ℕ → List ℕ → List ℕ
version_text catalog owner name =
    unwrap_or (option_and_then own_version (bundle_named catalog.bundles owner name)) []

-- The upgrades in a channel from the bundle of this name, at its own version.
abbrev pub upgrades_from : Catalog → List ℕ → List ℕ → List ℕ → List (List ℕ)
upgrades_from catalog owner channel name =
    option_map_or (upgrades catalog owner channel name) (version_named catalog.bundles owner name) []

-- Those of these names from which this one is an upgrade.
abbrev pub sources : Catalog → List ℕ → List ℕ → List (List ℕ) → List ℕ → List (List ℕ)
sources catalog owner channel names name =
    filter (λ other. is_among name (upgrades_from catalog owner channel other)) names

-- An entry: its name, its version, and behind an arrow the names of the channel, which has these, from which it is an upgrade.
abbrev pub entry_line : Catalog → List ℕ → List ℕ → List (List ℕ) → List ℕ → List ℕ
entry_line catalog owner channel names name =
    name ++ codes " " ++ version_text catalog owner name ++ codes " <-"
    ++ flat_map (λ other. codes " " ++ other) (sources catalog owner channel names name) ++ codes "\n"

abbrev pub entry_lines : Catalog → List ℕ → List ℕ → List (List ℕ) → List ℕ
entry_lines catalog owner channel names = flat_map (entry_line catalog owner channel names) names

-- A channel: a line for each entry in channel order; nothing where there is no such channel.
abbrev pub channel_lines : Catalog → List ℕ → List ℕ → Option (List ℕ)
channel_lines catalog owner channel = option_map (entry_lines catalog owner channel) (order catalog owner channel)

-- The channel that two texts name. What is no name names none.
abbrev pub graph_lines : Catalog → List ℕ → List ℕ → Option (List ℕ)
graph_lines catalog owner channel = if is_name owner && is_name channel then channel_lines catalog owner channel else None
