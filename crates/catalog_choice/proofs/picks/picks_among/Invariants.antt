use Rattle.std.proofs.Common.{◌≡◌, ◌++◌, drop}
use Rattle.std.specs.List.{filter_map}
use Rattle.catalog_choice.specs.Picked.{pick_at}
use Rattle.catalog_choice.proofs.picks.picks_among.Given as goal

abbrev pub invariant-loop-variable : goal.invariant-loop-variable
invariant-loop-variable l =
    l.found ++ filter_map (pick_at l.names) (drop l.variable-index l.variables) ≡ filter_map (pick_at l.names) l.variables
