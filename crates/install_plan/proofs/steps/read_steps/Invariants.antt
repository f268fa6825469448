use Rattle.std.proofs.Common.{◌≡◌, map, take}
use Rattle.install_plan.specs.Steps.{manifest_step}
use Rattle.install_plan.proofs.steps.read_steps.Given as goal

abbrev pub invariant-loop-body : goal.invariant-loop-body
invariant-loop-body l =
    l.steps.items ≡ map (manifest_step l.namespace l.taken) (map (λ body. body.now) (take l.body-index l.bodies))
