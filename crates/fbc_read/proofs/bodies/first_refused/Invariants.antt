use Rattle.std.proofs.Common.{◌≡◌, drop}
use Rattle.std.specs.Prelude.{find}
use Rattle.fbc_read.specs.Bodies.{is_refused}
use Rattle.fbc_read.proofs.bodies.first_refused.Given as goal

abbrev pub invariant-loop-path : goal.invariant-loop-path
invariant-loop-path l = find is_refused (drop l.path-index l.paths) ≡ find is_refused l.paths
