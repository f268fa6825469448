use Rattle.std.proofs.Common.{◌≡◌, map}
use Rattle.install_plan.specs.Plans.{first_ones}
use Rattle.install_plan.proofs.keeping.first_ones.Given as goal

abbrev pub invariant-steps : goal.invariant-steps
invariant-steps l = l.kept ≡ first_ones (map (λ one. one.step) l.yielded)
