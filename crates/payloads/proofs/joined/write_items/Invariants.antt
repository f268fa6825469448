use Rattle.std.proofs.Common.{◌≡◌, ◌++◌, true, take}
use Rattle.std.specs.List.{flat_map, list_all}
use Rattle.payloads.proofs.joined.write_items.Given as goal

pub record Written (all_fit : Type 0) (bytes_are : Type 0) : Type 0 where
  pub fits : all_fit
  pub bytes : bytes_are

abbrev pub invariant-loop-item : goal.invariant-loop-item
invariant-loop-item g l =
    Written (list_all g.T.Stored.form.fits (take l.item-index l.items) ≡ true)
    (l.out.items ≡ l.fn.out.items ++ flat_map g.T.Stored.form.spell (take l.item-index l.items))
