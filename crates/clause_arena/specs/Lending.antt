-- What an arena is after one of its clauses was changed.
use Rattle.std.specs.Prelude.{List}
use Rattle.std.specs.Borrow.{Lends, MutBor, Fml, Array}
use Rattle.std.specs.Vec.{with_items_from}
use Rattle.op_constraints.specs.declared.Lit.{Lit}
use Rattle.op_constraints.specs.contracts.Lit as lit
use Rattle.clause_arena.specs.declared.Arena.{Arena}
use Rattle.clause_arena.specs.declared.ClauseRef.{ClauseRef}
use Rattle.clause_arena.specs.contracts.Arena.{the_row}

-- the arena with other literals from the clause's start on
abbrev pub with_literals : Arena → ClauseRef → List Lit → Arena
with_literals a c lits = record { lits = with_items_from a.lits c.start lits }

-- the arena ends with the last literals behind r at the clause's place
abbrev pub LendsClause : MutBor Arena → ClauseRef → MutBor (List Lit) → Fml
LendsClause a c r = Lends the_row (Array lit.the_row 0) a r (λ lits. with_literals a.now c lits)
