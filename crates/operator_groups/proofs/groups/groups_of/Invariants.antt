use Rattle.std.proofs.Common.{◌≡◌, ◌++◌, drop, map}
use Rattle.std.specs.List.{filter_map}
use Rattle.operator_groups.specs.Acts.{group_in}
use Rattle.operator_groups.proofs.groups.groups_of.Given as goal

abbrev pub invariant-slots : goal.invariant-slots
invariant-slots l =
    map (λ group. group.now) l.groups.items ++ filter_map (group_in l.view.namespace) (drop l.entry-index l.entry-items)
    ≡ filter_map (group_in l.view.namespace) l.entry-items
