use Rattle.std.proofs.Common.{Some, Ok, map, sym, ap, ◌∙◌}
use Rattle.serde_json.specs.View.{view}
use Rattle.serde_json.proofs.Views.{view-Array}
use Rattle.olm_base.specs.Fields.{as_list}
use Rattle.olm_base.proofs.Items.{items_list_is}
use Rattle.json_fields.proofs.items.lend_items.Goals as goal

pub returns-in-Array : goal.returns-in-Array
returns-in-Array c =
    sym
    (ap (λ value. as_list (Some (view value))) c.in-Array.is
    ∙ ap (λ list. as_list (Some list)) (view-Array c.in-Array.items)
    ∙ ap Ok (items_list_is (map view c.in-Array.items.items) ∙ ap (map view) (sym c.as_slice.ensures.value)))
