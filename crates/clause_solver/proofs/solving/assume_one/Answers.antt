use Rattle.std.proofs.Common.{sym}
use Rattle.clause_solver.proofs.Assuming.{none_out}
use Rattle.clause_solver.proofs.solving.assume_one.Goals as goal

pub put-requires-clause-unknown : goal.put-requires-clause-unknown
put-requires-clause-unknown c = (
  sym c.if-is_true.ensures,
  none_out c.args.trail.now.entries c.args.var c.requires.positive,
)
