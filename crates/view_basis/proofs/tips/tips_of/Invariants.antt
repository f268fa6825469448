use Rattle.std.proofs.Common.{◌≡◌, ◌++◌, drop}
use Rattle.std.specs.List.{filter_map}
use Rattle.view_basis.specs.Tips.{tip_in}
use Rattle.view_basis.proofs.tips.tips_of.Given as goal

abbrev pub invariant-slots : goal.invariant-slots
invariant-slots l =
    l.tips ++ filter_map (tip_in l.view) (drop l.entry-index l.entry-items) ≡ filter_map (tip_in l.view) l.entry-items
