use Rattle.std.proofs.Common.{◌≡◌, ◌++◌, drop}
use Rattle.std.specs.List.{filter_map}
use Rattle.csv_phases.specs.Csvs.{csv_entry}
use Rattle.csv_view.proofs.csvs.csvs_of.Given as goal

abbrev pub invariant-slots : goal.invariant-slots
invariant-slots l =
    l.csvs.items ++ filter_map (csv_entry l.view) (drop l.entry-index l.entry-items)
    ≡ filter_map (csv_entry l.view) l.entry-items
