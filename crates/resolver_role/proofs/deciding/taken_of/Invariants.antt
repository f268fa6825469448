use Rattle.std.proofs.Common.{◌≡◌, ◌++◌, drop}
use Rattle.std.specs.List.{filter_map}
use Rattle.controller_rules.specs.Deciding.{taken_pick}
use Rattle.resolver_role.proofs.deciding.taken_of.Given as goal

abbrev pub invariant-picks : goal.invariant-picks
invariant-picks l =
    l.taken ++ filter_map taken_pick (drop l.pick-index l.picks) ≡ filter_map taken_pick l.picks
