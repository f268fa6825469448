-- What the definitions have, for every view, or for every view that is in the order of its keys, as those of a history are.
use Rattle.std.specs.Prelude.{◌≡◌, ℕ, List, [], map, Some, slice_get}
use Rattle.std.specs.List.{filter_map}
use Rattle.std.specs.List.Sorted.{IsPermutation, IsStrictlySortedBy}
use Rattle.std.specs.Option.{option_and_then}
use Rattle.cluster_objects.specs.Keys.{text_cmp}
use Rattle.cluster_history.specs.History.{IsInOrder}
use Rattle.cluster_history.specs.Views.{View}
use Rattle.fbc_types.specs.Rules.{broken}
use Rattle.fbc_types.specs.declared.catalog.Catalog.{Catalog}
use Rattle.view_basis.specs.Basis.{subscriptions}
use Rattle.view_basis.specs.Bodies.{valid_catalog}
use Rattle.view_basis.specs.Tips.{installed, installed_place, tip_in, tips}
use Rattle.view_basis.specs.Visible.{seen_catalogs, seen_cmp, source_in, sources}

-- Subscriptions and tips are in the strict order of their names, so each name stands once.
abbrev pub SubscriptionsAreByName : Type 0
SubscriptionsAreByName =
    (view : View) → IsInOrder view.slots → IsStrictlySortedBy text_cmp (map (λ subscription. subscription.0) (subscriptions view))

abbrev pub TipsAreByName : Type 0
TipsAreByName = (view : View) → IsInOrder view.slots → IsStrictlySortedBy text_cmp (map (λ tip. tip.name) (tips view))

-- The visible catalogs are those of the slots, and each comes before all that stand behind it.
abbrev pub CatalogsAreOfSlots : Type 0
CatalogsAreOfSlots = (view : View) → IsPermutation (filter_map (source_in view.namespace) view.slots) (sources view)

abbrev pub CatalogsAreInOrder : Type 0
CatalogsAreInOrder = (view : View) → IsInOrder view.slots → IsStrictlySortedBy seen_cmp (seen_catalogs view)

-- At the place of a package's installed one stands the first tip of the package.
abbrev pub InstalledIsFirst : Type 0
InstalledIsFirst =
    (view : View) («package» : List ℕ) →
    option_and_then (λ place. option_and_then (tip_in view) (slice_get view.slots place)) (installed_place view «package»)
    ≡ installed view «package»

-- The catalog of a body breaks no rule.
abbrev pub ValidBreaksNothing : Type 0
ValidBreaksNothing = (body : List ℕ) (catalog : Catalog) → valid_catalog body ≡ Some catalog → broken catalog ≡ []
