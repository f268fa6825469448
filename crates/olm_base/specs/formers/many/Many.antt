-- How a `Many` holds its items, so that a type may hold itself through it.
-- A `Many` is seen as the list of its items, and so it is split into them as a list is. Its one field is a `Vec` that shows the same list.
use mathlib.Core.Path.{◌≡◌, refl, sym}
use mathlib.Core.List.{List, []}
use mathlib.Core.Former.{Former, this, list, via, children}
use base.Stored.{code_map}
use denote.RattleType.{RattleType}
use denote.HoleLaws.{Alike}
use denote.HolePlaces.{Recodes, struct_places, laid}
use denote.Hole.Carrier.{listed, list-listed}
use denote.Hole.Fix.{over}
use denote.Param.Weighed.{Weighed, w_list}
use denote.Model.Placed.{view_places}
use Rattle.std.specs.formers.vec.Vec as buffer
use Rattle.std.specs.declared.alloc.Global.{Global}
use Rattle.std.specs.contracts.alloc.Global as allocator
use Rattle.std.specs.contracts.impls.GlobalAllocator.TheImpl.{ghosts}
use Rattle.olm_base.specs.declared.many.Many.TheInside.{Inside}
use Rattle.olm_base.specs.declared.many.Many.TheView.{view, invariant}
use Rattle.olm_base.specs.contracts.many.Many as outside
use Rattle.olm_base.specs.contracts.many.Many.TheInside as inside

-- the list of what the items hold
abbrev pub the_former : Former {0} → Former {0}
the_former item = list item

-- the greatest measure among the items
abbrev pub the_weighed : {item : Former {0}} → Weighed item → Weighed (the_former item)
the_weighed weighed = w_list weighed

-- without an item it holds nothing
pub the_empty : List ⊥
the_empty = []

-- what it holds, in order, is the list that it is
abbrev pub the_items : (Item : Type 0) → List Item → List Item
the_items Item items = items

pub the_items_listed : (Item : Type 0) (items : List Item) → listed _ (children (the_former this) Item items) ≡ the_items Item items
the_items_listed Item items = list-listed Item items

-- its one field as the buffer's own split
abbrev field : Former {0}
field = via (buffer.the_former this Global) Inside (λ Item fields. fields.items) (λ Item items. record { items = items }) (λ Item fields. refl) (λ Item items. refl)

module _ (Old New : RattleType) (change : Old.Denot → New.Denot) where
  pub the_places : Alike Old New change → Alike (outside.the_row Old) (outside.the_row New) ((the_former this).map Old.Denot New.Denot change)
  the_places alike = view_places field (list this) view (λ X Y k fields. refl) (λ X fields. refl) Old.Denot New.Denot change
      (outside.the_row Old).coded (outside.the_row New).coded (invariant Old.Denot) (invariant New.Denot)
      (λ fields p q. refl) (λ fields p q. refl) (λ fields e. tt) (λ fields e. tt) (over (inside.the_row Old)) (over (inside.the_row New))
      (struct_places (inside.the_type Old) (inside.the_type New) (buffer.mapped change, tt) _ (λ fields. refl) refl (laid _ _ _ (buffer.the_places allocator.the_row ghosts Old New change alike), tt))

  pub the_codes_placed : Recodes Old New change → Recodes (outside.the_row Old) (outside.the_row New) ((the_former this).map Old.Denot New.Denot change)
  the_codes_placed recodes items = sym (code_map Old.coded.code New.coded.code change (λ item. sym (recodes item)) items)
