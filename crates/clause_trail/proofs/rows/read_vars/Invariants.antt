use Rattle.std.proofs.Common.{◌≡◌, drop, map}
use Rattle.clause_trail.specs.Trails.{literals}
use Rattle.clause_trail.specs.Rows.{scanned}
use Rattle.clause_trail.proofs.rows.read_vars.Given as goal

abbrev pub invariant-loop-var : goal.invariant-loop-var
invariant-loop-var l =
    scanned (literals l.trail.entries) l.fn.before (map (λ v. record { var = v; positive = l.positive }) l.vars)
    ≡ scanned (literals l.trail.entries) l.left (map (λ v. record { var = v; positive = l.positive }) (drop l.var-index l.vars))
