use Rattle.std.proofs.Common.{◌∙◌, sym}
use Rattle.clause_trail.specs.Trails.{literals}
use Rattle.clause_trail.proofs.Reading.{nothing_read, true_read, unit_read, several_read}
use Rattle.clause_trail.proofs.rows.status_of.Goals as goal

pub returns-in-Nothing : goal.returns-in-Nothing
returns-in-Nothing c = λ clause e. nothing_read (literals c.args.trail.now.entries) clause (sym c.in-Nothing.is ∙ e)

pub returns-then-is_true : goal.returns-then-is_true
returns-then-is_true c = λ clause e. true_read (literals c.args.trail.now.entries) clause c.in-Only.lit (sym c.if-is_true.ensures) (sym c.in-Only.is ∙ e)

pub returns-else-is_true : goal.returns-else-is_true
returns-else-is_true c = λ clause e. unit_read (literals c.args.trail.now.entries) clause c.in-Only.lit (sym c.if-is_true.ensures) (sym c.in-Only.is ∙ e)

pub returns-in-Several : goal.returns-in-Several
returns-in-Several c = λ clause e. several_read (literals c.args.trail.now.entries) clause (sym c.in-Several.is ∙ e)
