use Rattle.std.proofs.Common.{[], None, refl}
use Rattle.olm_cli.specs.Commands.{HelpRuns}
use Rattle.olm_cli.specs.declared.causes.Cause.TheVariants.{NoMemory}
use Rattle.olm_cli.proofs.Came.{free_comes}
use Rattle.olm_cli.proofs.helping.print_help.Goals as goal

pub returns-in-Ok-clause-run : goal.returns-in-Ok-clause-run
returns-in-Ok-clause-run g c = (record { output = c.as_slice.result.now; end = None }, refl, c.print.ensures.end, c.print.ensures.output)

pub returns-in-Err-clause-run : goal.returns-in-Err-clause-run
returns-in-Err-clause-run g c = free_comes HelpRuns NoMemory (g.O.Sink.held c.args.out.now) refl (record { output = []; end = None }, refl)
