use Rattle.std.proofs.Common.{Ok}
use Rattle.log_store.specs.Starts.{cause_of, disk_after, disk_of, told}
use Rattle.log_store.specs.Store.{store_history}
use Rattle.object_store.specs.Puts.{Reopens, fault_failed}
use Rattle.file_commands.specs.Answers.{Answers, NoProblem, Sees}
use Rattle.file_commands.proofs.Unopened.{unopened}
use Rattle.file_commands.proofs.Found.{opens_history}
use Rattle.file_commands.proofs.looking.look_on.Goals as goal

pub returns-in-Ok-clause-seen : goal.returns-in-Ok-clause-seen
returns-in-Ok-clause-seen g c =
    let s = c.in-Ok.store in
    let h = store_history (g.D.Disk.tells s.disk) (g.D.Disk.content s.disk) s.writes in
    (Ok h, opens_history (g.D.Disk.tells c.args.disk) (g.D.Disk.content c.args.disk) h c.in-Ok.ensures.damage c.in-Ok.ensures.history c.in-Ok.ensures.still, c.look_at-end.ensures.seen)

pub returns-in-Err-clause-seen : goal.returns-in-Err-clause-seen
returns-in-Err-clause-seen g c =
    unopened (Unit {0}) (g.D.Disk.tells c.args.disk) (g.D.Disk.content c.args.disk) (Sees c.args.namespace.now c.args.seen.now) (cause_of c.in-Err.fault) c.not_seen.result.0 c.in-Err.ensures.damage c.not_seen.ensures.end
