use Rattle.std.proofs.Common.{◌≡◌, drop}
use Rattle.fbc_read.specs.Bodies.{first_split}
use Rattle.fbc_read.proofs.bodies.first_split.Given as goal

abbrev pub invariant-files : goal.invariant-files
invariant-files l = first_split (drop l.path-index l.files) ≡ first_split l.files
