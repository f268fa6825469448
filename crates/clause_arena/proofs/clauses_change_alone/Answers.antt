use Rattle.clause_arena.proofs.Changing.{changes_alone}
use Rattle.clause_arena.proofs.clauses_change_alone.Goals as goal

pub returns : goal.returns
returns c = changes_alone
