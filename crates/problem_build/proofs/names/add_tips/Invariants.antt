use Rattle.std.proofs.Common.{◌≡◌, ◌++◌, map, drop}
use Rattle.problem_build.specs.declared.names.VarName.TheVariants as variable
use Rattle.cluster_objects.specs.declared.resolutions.Tip.{Tip}
use Rattle.problem_build.proofs.names.add_tips.Given as goal

abbrev pub invariant-loop-tip : goal.invariant-loop-tip
invariant-loop-tip l =
    l.names.items ++ map (λ (t : Tip). variable.Installed t.name) (drop l.tip-index l.tips) ≡ l.initial.names.items ++ map (λ (t : Tip). variable.Installed t.name) l.tips
