use Rattle.std.proofs.Common.{◌≡◌, drop}
use Rattle.derivation_check.specs.Scan.{scanned}
use Rattle.derivation_check.proofs.scan.scan.Given as goal

abbrev pub invariant-loop-lit : goal.invariant-loop-lit
invariant-loop-lit l = scanned l.marks l.fn.before l.lits ≡ scanned l.marks l.left (drop l.lit-index l.lits)
