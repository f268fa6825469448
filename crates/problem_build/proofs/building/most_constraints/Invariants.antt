use Rattle.std.proofs.Common.{◌≡◌, length, map, drop, max}
use Rattle.std.specs.List.{fold}
use Rattle.problem_build.specs.Building as spec
use Rattle.problem_build.proofs.building.most_constraints.Given as goal

abbrev pub invariant-loop-row : goal.invariant-loop-row
invariant-loop-row l =
    fold max l.most (map length (drop l.row-index l.rows)) ≡ spec.most_constraints l.rows
