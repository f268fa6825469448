use Rattle.std.proofs.Common.{rules, Some}
use Rattle.olm_cli.proofs.Said.{line_tells, silence_tells}
use Rattle.olm_cli.proofs.telling.tell_run.Goals as goal

pub returns-in_default : goal.returns-in_default
returns-in_default g c =
    record {
      line = line_tells (Some c.tell_cause.result) (g.E.Sink.held c.args.err.now) (g.E.Sink.held c.tell_cause.new.err) c.tell_cause.ensures.line;
      cause = search rules;
      words = search rules;
      silent = search rules;
      count = c.tell_cause.ensures.count;
    }

pub returns-in-BudgetSpent-clause-line : goal.returns-in-BudgetSpent-clause-line
returns-in-BudgetSpent-clause-line g c = silence_tells (g.E.Sink.held c.args.err.now)
