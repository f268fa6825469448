-- The entries of a channel as the code keeps them, each with the text of its version and its upgrades.
use Rattle.std.specs.Prelude.{◌≡◌, ℕ, if◌then◌else◌, List, [], ◌++◌, codes, Option, None, Some}
use Rattle.std.specs.List.{flat_map}
use Rattle.std.specs.Option.{option_and_then, option_map_or, unwrap_or}
use Rattle.olm_base.specs.Names.{is_name}
use Rattle.name_tables.specs.Sets.{has}
use Rattle.version_ranges.specs.Words.{version_of}
use Rattle.fbc_types.specs.Texts.{is_among, own_version}
use Rattle.fbc_types.specs.declared.catalog.Bundle.{Bundle}
use Rattle.fbc_types.specs.declared.catalog.Entry.{Entry}
use Rattle.upgrade_graph.specs.Order.{names}
use Rattle.upgrade_graph.specs.Upgrades.{upgrades_among}
use Rattle.catalog_lines.specs.declared.nodes.Node.{Node}
use Rattle.catalog_lines.specs.declared.sources.Source.{Source}

-- The text of the version that the bundle of this name gives for its package, where names have bundles.
abbrev pub text_named : (List ℕ → Option Bundle) → List ℕ → Option (List ℕ)
text_named bundle_of name = option_and_then own_version (bundle_of name)

-- The upgrades among the entries of a channel in channel order, from the name and the text of a version.
abbrev pub upgrades_at : List Entry → List ℕ → List ℕ → List (List ℕ)
upgrades_at entries name text = option_map_or (λ version. names (upgrades_among entries name version)) (version_of text) []

abbrev pub node : (List ℕ → Option Bundle) → List Entry → List ℕ → Node
node bundle_of entries name = record {
  name = name;
  version = unwrap_or (text_named bundle_of name) [];
  upgrades = option_map_or (upgrades_at entries name) (text_named bundle_of name) [];
}

-- The name of an entry behind a space, if this one is among its upgrades.
abbrev pub source_word : List ℕ → Node → List ℕ
source_word name other = if is_among name other.upgrades then codes " " ++ other.name else []

abbrev pub node_line : List Node → Node → List ℕ
node_line nodes entry =
    entry.name ++ codes " " ++ entry.version ++ codes " <-" ++ flat_map (source_word entry.name) nodes ++ codes "\n"

-- The entry that a set of names is kept for.
abbrev pub node_of : Source → Node
node_of source = source.node.now

-- The set has just the names that the entry can be upgraded to.
abbrev pub IsSource : Source → Type 0
IsSource source = (name : List ℕ) → has source.upgrades name ≡ is_among name source.node.now.upgrades

-- The name that a text is.
abbrev pub as_name : List ℕ → Option (List ℕ)
as_name text = if is_name text then Some text else None
