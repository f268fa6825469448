-- The catalogs that a namespace sees, and their order.
use Rattle.std.specs.Prelude.{ℕ, Bool, ◌||◌, if◌then◌else◌, List, map, Option, Some, None}
use Rattle.std.specs.List.{filter_map}
use Rattle.std.specs.Option.{option_and_then, option_map}
use Rattle.std.specs.Ordering.{int_cmp, is_lt, ordering_then}
use Rattle.std.specs.declared.cmp.Ordering.{Ordering}
use Rattle.cluster_objects.specs.Keys.{same_text, text_cmp}
use Rattle.cluster_objects.specs.Kinds.{catalog_at}
use Rattle.cluster_objects.specs.declared.keys.Key.{Key}
use Rattle.cluster_objects.specs.declared.objects.Object.{Object}
use Rattle.cluster_objects.specs.declared.resolutions.Seen.{Seen}
use Rattle.cluster_objects.specs.declared.statuses.CatalogStatus.{CatalogStatus}
use Rattle.cluster_history.specs.Views.{View, is_global}
use Rattle.cluster_history.specs.declared.slots.Slot.{Slot}
use Rattle.upgrade_graph.specs.Sorting.{sorted}
use Rattle.view_basis.specs.Bodies.{valid_catalog}
use Rattle.view_basis.specs.declared.visible.Visible.{Visible}

-- what is seen of a CatalogSource, and its body
pub record Source : Type 0 where
  pub seen : Seen
  pub body : List ℕ

-- A namespace sees the catalogs of its own and of the global namespaces.
abbrev pub is_seen_from : List ℕ → Key → Bool
is_seen_from namespace key = same_text key.namespace namespace || is_global key.namespace

-- What a CatalogSource shows that stands at a key in this version.
abbrev pub source_of : Key → ℕ → Object → CatalogStatus → Source
source_of key version object status =
    record {
      seen = record { namespace = key.namespace; name = key.name; priority = status.priority; version = version };
      body = object.body;
    }

-- The CatalogSource that stands at a key, if one does.
abbrev pub source_at : Key → Slot → Option Source
source_at key slot =
    option_and_then (λ object. option_map (source_of key slot.version object) (catalog_at key (Some object))) slot.object

-- The CatalogSource of a slot, if one stands there that the namespace sees.
abbrev pub source_in : List ℕ → Key × Slot → Option Source
source_in namespace entry = if is_seen_from namespace entry.0 then source_at entry.0 entry.1 else None

-- The highest priority comes first, then the lowest namespace, then the lowest name, texts by their bytes.
abbrev pub seen_cmp : Seen → Seen → Ordering
seen_cmp a b =
    ordering_then (int_cmp b.priority a.priority)
    (ordering_then (text_cmp a.namespace b.namespace) (text_cmp a.name b.name))

abbrev pub is_before : Source → Source → Bool
is_before a b = is_lt (seen_cmp a.seen b.seen)

-- The CatalogSources that the view's namespace sees, in their order.
abbrev pub sources : View → List Source
sources view = sorted is_before (filter_map (source_in view.namespace) view.slots)

-- What is seen of each visible catalog, in their order.
abbrev pub seen_catalogs : View → List Seen
seen_catalogs view = map (λ source. source.seen) (sources view)

-- A visible catalog, with its catalog where its body is a valid one.
abbrev pub visible_of : Source → Visible
visible_of source = record { seen = source.seen; catalog = valid_catalog source.body }

-- The visible catalogs, in their order.
abbrev pub visible_catalogs : View → List Visible
visible_catalogs view = map visible_of (sources view)
