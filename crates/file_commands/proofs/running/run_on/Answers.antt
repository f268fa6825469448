use Rattle.std.proofs.Common.{Result, Ok, Err}
use Rattle.event_runs.specs.declared.halts.Halt.{Halt}
use Rattle.log_store.specs.Starts.{cause_of, disk_after, disk_of, told}
use Rattle.object_store.specs.Puts.{Reopens, fault_failed}
use Rattle.file_commands.specs.FileRuns.{FileRuns, RunsBetween}
use Rattle.file_commands.proofs.Ran.{ran_between, unopened}
use Rattle.file_commands.proofs.running.run_on.Goals as goal

pub returns-in-Ok-run_events-clause-runs : goal.returns-in-Ok-run_events-clause-runs
returns-in-Ok-run_events-clause-runs g c =
    let s = c.in-Ok.store in
    let done : Result Unit Halt = Ok tt in
    ran_between g.D.Disk.tells g.D.Disk.content c.args.disk c.close.result s c.run_events.new.cluster (g.F.Folder.held c.args.folder.now) c.args.events.now (g.O.Sink.held c.args.out.now) (g.O.Sink.held c.run_events.new.out) done
    c.in-Ok.ensures.damage c.in-Ok.ensures.history c.in-Ok.ensures.still c.in-Ok.ensures.tells c.in-Ok.ensures.limit c.in-Ok-run_events.ensures.runs c.close.ensures.disk c.close.ensures.whole c.close.ensures.still

pub returns-in-Err-run_events-clause-runs : goal.returns-in-Err-run_events-clause-runs
returns-in-Err-run_events-clause-runs g c =
    let s = c.in-Ok.store in
    let close = c.close-in-Err-run_events in
    let end : Result Unit Halt = Err c.in-Err-run_events.halt in
    ran_between g.D.Disk.tells g.D.Disk.content c.args.disk close.result s c.run_events.new.cluster (g.F.Folder.held c.args.folder.now) c.args.events.now (g.O.Sink.held c.args.out.now) (g.O.Sink.held c.run_events.new.out) end
    c.in-Ok.ensures.damage c.in-Ok.ensures.history c.in-Ok.ensures.still c.in-Ok.ensures.tells c.in-Ok.ensures.limit c.in-Err-run_events.ensures.runs close.ensures.disk close.ensures.whole close.ensures.still

pub returns-in-Err-clause-runs : goal.returns-in-Err-clause-runs
returns-in-Err-clause-runs g c =
    unopened g.D.Disk.tells g.D.Disk.content (Unit {0}) c.args.disk (disk_of c.in-Err.fault) c.not_run.result.1 (g.F.Folder.held c.args.folder.now) c.args.events.now (g.O.Sink.held c.args.out.now) (cause_of c.in-Err.fault) c.not_run.result.0
    c.in-Err.ensures.damage c.in-Err.ensures.tells c.in-Err.ensures.same c.not_run.ensures.end c.not_run.ensures.disk
