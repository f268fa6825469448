use Rattle.std.proofs.Common.{◌≡◌, drop}
use Rattle.clause_trail.specs.Trails.{literals}
use Rattle.clause_trail.specs.Rows.{scanned}
use Rattle.clause_trail.proofs.rows.read.Given as goal

abbrev pub invariant-loop-lit : goal.invariant-loop-lit
invariant-loop-lit l = scanned (literals l.trail.entries) l.fn.before l.lits ≡ scanned (literals l.trail.entries) l.left (drop l.lit-index l.lits)
