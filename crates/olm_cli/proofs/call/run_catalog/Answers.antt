use Rattle.std.proofs.Common.{Some}
use Rattle.olm_cli.specs.Commands.{TaskRuns}
use Rattle.olm_cli.specs.Words.{place_view, task_view}
use Rattle.olm_cli.proofs.Came.{placed_comes, step_comes}
use Rattle.olm_cli.proofs.Tasks.{a_task_run}
use Rattle.olm_cli.proofs.call.run_catalog.Goals as goal

pub returns-in-Err-clause-run : goal.returns-in-Err-clause-run
returns-in-Err-clause-run g c =
    let read = c.in-Err.ensures.answer in
    placed_comes (place_view c.args.place) (task_view c.args.task) (g.F.Folder.held c.args.folder.now) (g.S.Source.left c.args.input.now) read.0 (Some c.in-Err.cause) (g.O.Sink.held c.args.out.now) (g.O.Sink.held c.args.out.now) read.1
    (step_comes read.0 (TaskRuns (task_view c.args.task)) c.in-Err.cause (g.O.Sink.held c.args.out.now) (a_task_run (task_view c.args.task)) read.2)
