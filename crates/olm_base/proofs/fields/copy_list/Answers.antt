use Rattle.std.proofs.Common.{Some, Ok, map, sym, ap, ◌∙◌}
use Rattle.serde_json.specs.View.{view}
use Rattle.serde_json.proofs.Views.{view-Array}
use Rattle.olm_base.specs.Fields.{as_list}
use Rattle.olm_base.proofs.Items.{items_list_is}
use Rattle.olm_base.proofs.fields.copy_list.Goals as goal

pub returns-in-Ok : goal.returns-in-Ok
returns-in-Ok c =
    ap (λ value. as_list (Some (view value))) c.in-Array.is
    ∙ ap (λ list. as_list (Some list)) (view-Array c.in-Array.items)
    ∙ ap Ok (items_list_is (map view c.in-Array.items.items) ∙ ap (map view) (sym c.as_slice.ensures.value) ∙ sym c.in-Ok.ensures)
