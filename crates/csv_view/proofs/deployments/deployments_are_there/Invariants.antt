use Rattle.std.proofs.Common.{◌≡◌, Bool, ℕ, List, not, drop}
use Rattle.std.specs.List.{list_all}
use Rattle.csv_phases.specs.Conditions.{is_missing}
use Rattle.csv_view.proofs.deployments.deployments_are_there.Given as goal

abbrev pub invariant-names : goal.invariant-names
invariant-names l =
    let test : List ℕ → Bool = λ name. not (is_missing l.view l.csv name) in
    list_all test (drop l.name-index l.name-items) ≡ list_all test l.name-items
