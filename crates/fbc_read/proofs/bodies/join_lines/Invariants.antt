use Rattle.std.proofs.Common.{◌≡◌, ◌++◌, drop}
use Rattle.fbc_read.specs.Bodies.{lines}
use Rattle.fbc_read.proofs.bodies.join_lines.Given as goal

abbrev pub invariant-files : goal.invariant-files
invariant-files l = l.text.items ++ lines (drop l.bytes-index l.files) ≡ lines l.files
