use Rattle.std.proofs.Common.{◌≡◌, ◌++◌, map, drop}
use Rattle.problem_build.specs.declared.names.VarName.TheVariants as variable
use Rattle.problem_build.proofs.names.add_kinds.Given as goal

abbrev pub invariant-loop-kind : goal.invariant-loop-kind
invariant-loop-kind l =
    l.names.items ++ map variable.OneKind (drop l.kind-index l.kinds) ≡ l.initial.names.items ++ map variable.OneKind l.kinds
