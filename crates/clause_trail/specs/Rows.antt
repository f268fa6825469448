-- How a clause is read over a trail, literal by literal.
use Rattle.std.specs.Prelude.{Bool, true, false, cond, List, [], ◌∷◌}
use Rattle.op_constraints.specs.declared.Lit.{Lit}
use Rattle.derivations.specs.Clauses.{denial, is_same, is_in}
use Rattle.clause_trail.specs.declared.rows.Left.{Left}
use Rattle.clause_trail.specs.declared.rows.Left.TheVariants.{Nothing, Only, Several}

abbrev pub joined : Left → Lit → Left
joined Nothing l = Only l
joined (Only m) l = cond (is_same l m) (Only m) Several
joined Several l = Several

abbrev pub added : List Lit → Left → Lit → Left
added trail left l = cond (is_in trail (denial l)) left (joined left l)

-- what is left of the clause, after what was left before it
abbrev pub scanned : List Lit → Left → List Lit → Left
scanned trail before [] = before
scanned trail before (l ∷ ls) = scanned trail (added trail before l) ls
