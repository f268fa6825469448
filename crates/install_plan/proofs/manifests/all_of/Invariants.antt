use Rattle.std.proofs.Common.{◌≡◌, map, take}
use Rattle.install_plan.proofs.manifests.all_of.Given as goal

abbrev pub invariant-loop-body : goal.invariant-loop-body
invariant-loop-body l = map (λ object. object.now) l.objects.items ≡ take l.body-index l.bodies
