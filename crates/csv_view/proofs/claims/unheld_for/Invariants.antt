use Rattle.std.proofs.Common.{◌≡◌, Bool, not, drop, map}
use Rattle.std.specs.List.{find}
use Rattle.operator_groups.specs.declared.claiming.Claimed.{Claimed}
use Rattle.csv_phases.specs.Conditions.{claim_of, is_held}
use Rattle.csv_view.proofs.claims.unheld_for.Given as goal

abbrev pub invariant-definitions : goal.invariant-definitions
invariant-definitions l =
    let test : Claimed → Bool = λ claimed. not (is_held claimed) in
    find test (map (claim_of l.view l.targets) (drop l.crd-index l.owned))
    ≡ find test (map (claim_of l.view l.targets) l.owned)
