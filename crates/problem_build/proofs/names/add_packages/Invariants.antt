use Rattle.std.proofs.Common.{◌≡◌, ◌++◌, map, drop}
use Rattle.problem_build.specs.declared.names.VarName.TheVariants as variable
use Rattle.problem_build.proofs.names.add_packages.Given as goal

abbrev pub invariant-loop-name : goal.invariant-loop-name
invariant-loop-name l =
    l.names.items ++ map variable.OnePackage (drop l.name-index l.packages) ≡ l.initial.names.items ++ map variable.OnePackage l.packages
