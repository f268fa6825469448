use Rattle.std.proofs.Common.{◌≡◌, drop}
use Rattle.std.specs.List.{filter_map, slice_get}
use Rattle.phases_role.specs.Each.{collection_of}
use Rattle.phases_role.proofs.collecting.first_in.Given as goal

abbrev pub invariant-slots : goal.invariant-slots
invariant-slots l =
    slice_get (filter_map (collection_of l.view) (drop l.entry-index l.slots)) 0
    ≡ slice_get (filter_map (collection_of l.view) l.slots) 0
