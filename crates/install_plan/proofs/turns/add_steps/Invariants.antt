use Rattle.std.proofs.Common.{◌≡◌, ◌++◌, map}
use Rattle.std.specs.List.{filter_map}
use Rattle.install_plan.specs.Plans.{of_manifest}
use Rattle.install_plan.proofs.turns.add_steps.Given as goal

abbrev pub invariant-steps : goal.invariant-steps
invariant-steps l = l.turned.items ≡ l.fn.turned.items ++ map of_manifest (filter_map (λ found. found) l.yielded)
