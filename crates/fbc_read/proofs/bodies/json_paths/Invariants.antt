use Rattle.std.proofs.Common.{◌≡◌, ◌++◌, drop, filter}
use Rattle.fbc_read.specs.Bodies.{is_json}
use Rattle.fbc_read.proofs.bodies.json_paths.Given as goal

abbrev pub invariant-loop-path : goal.invariant-loop-path
invariant-loop-path l = l.found.items ++ filter is_json (drop l.path-index l.paths) ≡ filter is_json l.paths
