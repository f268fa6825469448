use Rattle.std.proofs.Common.{[], map, sym, ap, ◌∙◌}
use Rattle.std.specs.Option.{option_map_or}
use Rattle.serde_json.specs.Find.{as_array}
use Rattle.serde_json.specs.View.{view}
use Rattle.serde_json.proofs.Views.{view-Array}
use Rattle.olm_base.specs.Fields.{items_list}
use Rattle.olm_base.proofs.Items.{items_list_is}
use Rattle.operator_groups.proofs.modes.items_of.Goals as goal

pub returns-in-Array : goal.returns-in-Array
returns-in-Array c =
    sym
    (ap (λ value. option_map_or items_list (as_array (view value)) []) c.in-Array.is
    ∙ ap (λ list. option_map_or items_list (as_array list) []) (view-Array c.in-Array.items)
    ∙ items_list_is (map view c.in-Array.items.items)
    ∙ ap (map view) (sym c.as_slice.ensures.value))
