use Rattle.std.proofs.Common.{◌≡◌, drop, map, option_copied}
use Rattle.install_plan.specs.Plans.{bundled, good_manifests}
use Rattle.install_plan.proofs.Gathering.{coming}
use Rattle.install_plan.proofs.plans.manifest_steps.Given as goal

abbrev pub invariant-loop-one : goal.invariant-loop-one
invariant-loop-one l =
    coming l.namespace l.turned.items (option_copied l.lacking) (map (bundled l.catalogs) (drop l.one-index l.taken))
    ≡ good_manifests l.namespace (map (bundled l.catalogs) l.taken)
