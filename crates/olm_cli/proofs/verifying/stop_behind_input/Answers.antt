use Rattle.olm_cli.proofs.Verified.{read_stops, unread_stops}
use Rattle.olm_cli.proofs.verifying.stop_behind_input.Goals as goal

pub returns-in-Ok-clause-run : goal.returns-in-Ok-clause-run
returns-in-Ok-clause-run g c =
    let read = c.in-Ok.ensures.answer in
    λ bound. read_stops (g.S.Source.left c.args.input.now) read.0 c.in-Ok._certificate c.args.cause read.1 read.2

pub returns-in-Err-clause-run : goal.returns-in-Err-clause-run
returns-in-Err-clause-run g c =
    let read = c.in-Err.ensures.answer in
    λ bound. unread_stops (g.S.Source.left c.args.input.now) read.0 c.args.cause c.in-Err.fault read.1 (read.2 bound)
