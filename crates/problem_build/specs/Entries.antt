-- The entries of the visible catalogs: each bundle as often as it stands in a channel.
use Rattle.std.specs.Prelude.{ℕ, Bool, ◌&&◌, List, [], Option}
use Rattle.std.specs.Cmp.Lexicographic.{slice_cmp}
use Rattle.std.specs.List.{filter_map, flat_map, list_any}
use Rattle.std.specs.Option.{option_and_then, option_map, option_map_or, unwrap_or}
use Rattle.std.specs.Ordering.{bool_cmp, is_lt, nat_cmp, ordering_then}
use Rattle.std.specs.declared.cmp.Ordering.{Ordering}
use Rattle.fbc_types.specs.Texts.{same, own_version}
use Rattle.fbc_types.specs.declared.catalog.Bundle.{Bundle}
use Rattle.fbc_types.specs.declared.catalog.Catalog.{Catalog}
use Rattle.fbc_types.specs.declared.catalog.Channel.{Channel}
use Rattle.fbc_types.specs.declared.catalog.Package.{Package}
use Rattle.cluster_objects.specs.declared.resolutions.Seen.{Seen}
use Rattle.op_properties.specs.Asked.{requirements_of}
use Rattle.op_properties.specs.Offers.{Provided, offer_of}
use Rattle.op_properties.specs.declared.requirement.Requirement.{Requirement}
use Rattle.upgrade_graph.specs.Order.{bundle_named, order}
use Rattle.upgrade_graph.specs.Sorting.{sorted}
use Rattle.view_basis.specs.declared.visible.Visible.{Visible}

-- An entry of a channel, with the catalog that it stands in, and what its bundle is, asks for and offers.
pub record Entry : Type 0 where
  pub catalog_namespace : List ℕ
  pub catalog : List ℕ
  pub «package» : List ℕ
  pub channel : List ℕ
  pub name : List ℕ
  pub version : List ℕ
  pub requirements : List Requirement
  pub offer : Provided

-- The entry that a bundle is in a channel. In a catalog that breaks no rule there is one for each.
abbrev pub entry_of : Seen → Channel → Bundle → Option Entry
entry_of seen channel bundle =
    option_and_then
    (λ version.
    option_and_then
    (λ requirements.
    option_map
    (λ offer.
    record {
      catalog_namespace = seen.namespace;
      catalog = seen.name;
      «package» = channel.«package»;
      channel = channel.name;
      name = bundle.name;
      version = version;
      requirements = requirements;
      offer = offer;
    })
    (offer_of bundle))
    (requirements_of bundle))
    (own_version bundle)

-- The entry of this name in a channel.
abbrev pub entry_named : Seen → Catalog → Channel → List ℕ → Option Entry
entry_named seen catalog channel name =
    option_and_then (entry_of seen channel) (bundle_named catalog.bundles channel.«package» name)

-- The entries of a channel, in channel order.
abbrev pub channel_entries : Seen → Catalog → Channel → List Entry
channel_entries seen catalog channel =
    filter_map (entry_named seen catalog channel) (unwrap_or (order catalog channel.«package» channel.name) [])

-- The channel is the default channel of its package.
abbrev pub is_default : List Package → Channel → Bool
is_default packages channel =
    list_any (λ blob. same blob.name channel.«package» && same blob.default_channel channel.name) packages

-- Of one package the default channel comes first, and then the others by their names.
abbrev pub cmp_in_package : List Package → Channel → Channel → Ordering
cmp_in_package packages a b =
    ordering_then (bool_cmp (is_default packages b) (is_default packages a)) (slice_cmp nat_cmp a.name b.name)

-- Channels come by their packages' names.
abbrev pub channel_cmp : List Package → Channel → Channel → Ordering
channel_cmp packages a b = ordering_then (slice_cmp nat_cmp a.«package» b.«package») (cmp_in_package packages a b)

abbrev pub is_before : List Package → Channel → Channel → Bool
is_before packages a b = is_lt (channel_cmp packages a b)

abbrev pub channels_in_order : Catalog → List Channel
channels_in_order catalog = sorted (is_before catalog.packages) catalog.channels

abbrev pub catalog_entries : Seen → Catalog → List Entry
catalog_entries seen catalog = flat_map (channel_entries seen catalog) (channels_in_order catalog)

-- A visible catalog has no entries where its body is no valid catalog.
abbrev pub visible_entries : Visible → List Entry
visible_entries visible = option_map_or (catalog_entries visible.seen) visible.catalog []

-- The entries of all visible catalogs.
abbrev pub entries : List Visible → List Entry
entries catalogs = flat_map visible_entries catalogs
