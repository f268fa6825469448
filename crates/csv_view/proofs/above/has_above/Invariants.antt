use Rattle.std.proofs.Common.{◌≡◌, Bool, ◌&&◌, drop}
use Rattle.std.specs.List.{list_any}
use Rattle.csv_phases.specs.Conditions.{is_succeeded}
use Rattle.csv_phases.specs.Csvs.{Csv, is_above}
use Rattle.csv_view.proofs.above.has_above.Given as goal

abbrev pub invariant-csvs : goal.invariant-csvs
invariant-csvs l =
    let test : Csv → Bool = λ other. is_above l.view l.name other && is_succeeded other in
    list_any test (drop l.other-index l.csvs) ≡ list_any test l.csvs
