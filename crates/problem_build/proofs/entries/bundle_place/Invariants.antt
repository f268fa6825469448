use Rattle.std.proofs.Common.{◌≡◌, drop}
use Rattle.upgrade_graph.specs.Order.{bundle_named}
use Rattle.problem_build.proofs.entries.bundle_place.Given as goal

abbrev pub invariant-loop-place : goal.invariant-loop-place
invariant-loop-place l =
    bundle_named (drop l.place l.bundles) l.owner l.name ≡ bundle_named l.bundles l.owner l.name
