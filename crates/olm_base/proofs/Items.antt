-- The items of a JSON list, as a list.
use Rattle.std.proofs.Common.{◌≡◌, List, [], ◌∷◌, refl, ap}
use Rattle.serde_json.specs.Data.{Data}
use Rattle.serde_json.specs.View.{items_of}
use Rattle.olm_base.specs.Fields.{items_list}

pub items_list_is : (ds : List Data) → items_list (items_of ds) ≡ ds
items_list_is [] = refl
items_list_is (d ∷ ds) = ap (λ later. d ∷ later) (items_list_is ds)
