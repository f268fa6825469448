use Rattle.std.proofs.Common.{◌≡◌, Bool, false, ℕ, List, drop}
use Rattle.std.specs.List.{list_all}
use Rattle.std.specs.Option.{option_map_or}
use Rattle.csv_phases.specs.Conditions.{is_ready_state}
use Rattle.csv_phases.specs.Csvs.{owned_deployment}
use Rattle.csv_view.proofs.deployments.deployments_are_ready.Given as goal

abbrev pub invariant-names : goal.invariant-names
invariant-names l =
    let test : List ℕ → Bool = λ name. option_map_or is_ready_state (owned_deployment l.view l.csv name) false in
    list_all test (drop l.name-index l.name-items) ≡ list_all test l.name-items
