use Rattle.std.proofs.Common.{◌≡◌, ◌∷◌, map, take}
use Rattle.clause_trail.proofs.rows.row.Given as goal

abbrev pub invariant-loop-other : goal.invariant-loop-other
invariant-loop-other l = l.lits.items ≡ record { var = l.fn.var; positive = l.first } ∷ map (λ v. record { var = v; positive = l.positive }) (take l.other-index l.others)
