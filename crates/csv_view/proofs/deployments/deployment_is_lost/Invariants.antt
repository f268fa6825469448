use Rattle.std.proofs.Common.{◌≡◌, Bool, true, ℕ, List, drop}
use Rattle.std.specs.List.{list_any}
use Rattle.std.specs.Option.{option_map_or}
use Rattle.csv_phases.specs.Conditions.{is_failed_state}
use Rattle.csv_phases.specs.Csvs.{owned_deployment}
use Rattle.csv_view.proofs.deployments.deployment_is_lost.Given as goal

abbrev pub invariant-names : goal.invariant-names
invariant-names l =
    let test : List ℕ → Bool = λ name. option_map_or is_failed_state (owned_deployment l.view l.csv name) true in
    list_any test (drop l.name-index l.name-items) ≡ list_any test l.name-items
