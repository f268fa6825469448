use Rattle.std.proofs.Common.{◌≡◌}
use Rattle.fbc_read.specs.Catalogs.{Read}
use Rattle.olm_cli.specs.Checking.{checked_run}
use Rattle.olm_cli.specs.Reading.{catalog_of}
use Rattle.olm_cli.specs.Runs.{Ran}
use Rattle.olm_cli.proofs.Came.{step_comes}
use Rattle.olm_cli.proofs.Tasks.{a_checked_run}
use Rattle.olm_cli.proofs.checking.check_text.Goals as goal

pub returns-in-Err-clause-run : goal.returns-in-Err-clause-run
returns-in-Err-clause-run g c =
    step_comes (catalog_of c.args.text.now) (λ (read : Read) (ran : Ran). ran ≡ checked_run read.catalog) c.in-Err.cause (g.O.Sink.held c.args.out.now) a_checked_run c.in-Err.ensures.answer
