-- Which ways of acting a CSV supports, by its body.
use Rattle.std.specs.Prelude.{ℕ, Bool, true, false, ◌&&◌, if◌then◌else◌, List, [], ◌∷◌, Option, Some, None, codes}
use Rattle.std.specs.List.{list_all, list_any}
use Rattle.std.specs.Option.{option_and_then, option_map_or, unwrap_or}
use Rattle.serde_json.specs.Data.{Data}
use Rattle.serde_json.specs.Find.{get, as_array, as_bool, as_str}
use Rattle.olm_base.specs.Fields.{items_list}
use Rattle.catalog_stream.specs.Stream.{object_of}
use Rattle.cluster_objects.specs.Keys.{same_text}
use Rattle.cluster_history.specs.Views.{View}
use Rattle.operator_groups.specs.Acts.{acts}
use Rattle.operator_groups.specs.declared.groups.Acts.{Acts}
use Rattle.operator_groups.specs.declared.groups.Acts.TheVariants.{Ungrouped, Several, In, Everywhere}
use Rattle.operator_groups.specs.declared.modes.Mode.{Mode}
use Rattle.operator_groups.specs.declared.modes.Mode.TheVariants.{OwnNamespace, SingleNamespace, MultiNamespace, AllNamespaces}

-- the word for a mode in a body
abbrev pub word : Mode → List ℕ
word OwnNamespace = codes "OwnNamespace"
word SingleNamespace = codes "SingleNamespace"
word MultiNamespace = codes "MultiNamespace"
word AllNamespaces = codes "AllNamespaces"

-- ---- what the body says: `spec.installModes`, a list of objects with `type` and `supported`

-- the items of the list; what is absent or no list has none
abbrev pub modes_of : Data → List Data
modes_of value =
    option_map_or items_list (option_and_then as_array (option_and_then (get (codes "installModes")) (get (codes "spec") value))) []

-- the item is of this mode
abbrev pub is_of_mode : Mode → Data → Bool
is_of_mode mode item = option_map_or (same_text (word mode)) (option_and_then as_str (get (codes "type") item)) false

-- the item says that its mode is supported
abbrev pub says_supported : Data → Bool
says_supported item = unwrap_or (option_and_then as_bool (get (codes "supported") item)) false

-- some item is of this mode and says that it is supported
abbrev pub lists_mode : Mode → Data → Bool
lists_mode mode value = list_any (λ item. is_of_mode mode item && says_supported item) (modes_of value)

-- A body that is no JSON object supports no mode.
abbrev pub supports_mode : List ℕ → Mode → Bool
supports_mode body mode = option_map_or (lists_mode mode) (object_of body) false

-- ---- which mode it takes to act in these namespaces

-- The mode for one namespace.
abbrev pub mode_in : List ℕ → List ℕ → Mode
mode_in own target = if same_text target own then OwnNamespace else SingleNamespace

-- The mode for these namespaces. A name that stands twice counts once, and for no namespace there is no mode.
abbrev pub mode_for : List ℕ → List (List ℕ) → Option Mode
mode_for own [] = None
mode_for own (target ∷ targets) =
    Some (if list_all (same_text target) targets then mode_in own target else MultiNamespace)

-- A CSV in its own namespace supports what the namespace's groups ask of it. Without a group nothing is asked, and several
-- groups are supported by none.
abbrev pub supports : List ℕ → List ℕ → Acts → Bool
supports body own Ungrouped = true
supports body own Several = false
supports body own (In targets) = option_map_or (supports_mode body) (mode_for own targets) false
supports body own Everywhere = supports_mode body AllNamespaces

-- The group of the view's namespace fits a CSV of this body there.
abbrev pub fits : View → List ℕ → Bool
fits view body = supports body view.namespace (acts view)
