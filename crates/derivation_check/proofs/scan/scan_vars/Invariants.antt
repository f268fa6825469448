use Rattle.std.proofs.Common.{◌≡◌, drop, map}
use Rattle.derivation_check.specs.Scan.{scanned}
use Rattle.derivation_check.proofs.scan.scan_vars.Given as goal

abbrev pub invariant-loop-var : goal.invariant-loop-var
invariant-loop-var l = scanned l.marks l.fn.before (map (λ v. record { var = v; positive = l.positive }) l.vars) ≡ scanned l.marks l.left (map (λ v. record { var = v; positive = l.positive }) (drop l.var-index l.vars))
