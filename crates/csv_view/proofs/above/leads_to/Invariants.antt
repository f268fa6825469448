use Rattle.std.proofs.Common.{◌≡◌}
use Rattle.csv_phases.specs.Csvs.{leads_to}
use Rattle.csv_view.proofs.above.leads_to.Given as goal

abbrev pub invariant-steps : goal.invariant-steps
invariant-steps l = leads_to l.left l.view l.at l.name ≡ leads_to l.steps l.view l.from l.name

abbrev pub decreases-steps : goal.decreases-steps
decreases-steps l = l.left
