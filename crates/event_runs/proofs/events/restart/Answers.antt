use Rattle.event_runs.proofs.Stepping.{restart_steps, reopen_steps, unread_steps}
use Rattle.event_runs.proofs.events.restart.Goals as goal

pub returns-in-Ok-clause-steps : goal.returns-in-Ok-clause-steps
returns-in-Ok-clause-steps g c fits limit files =
    restart_steps (g.C.Cluster.tells c.args.cluster.now) fits limit files (g.C.Cluster.history c.args.cluster.now) (g.C.Cluster.history c.reopen.new.self) c.args.event.now
    c.requires.users c.requires.run c.reopen.ensures.history (g.O.Sink.held c.args.out.now) (g.O.Sink.held c.print_restart.new.out) c.print_restart.result c.print_restart.ensures.prints

pub returns-in-Err-Failed-clause-steps : goal.returns-in-Err-Failed-clause-steps
returns-in-Err-Failed-clause-steps g c fits limit files =
    reopen_steps (g.C.Cluster.tells c.args.cluster.now) fits limit files (g.C.Cluster.history c.args.cluster.now) (g.C.Cluster.history c.reopen.new.self) c.args.event.now
    c.requires.users c.requires.run c.reopen.ensures.history (g.O.Sink.held c.args.out.now)

pub returns-in-Err-Memory-clause-steps : goal.returns-in-Err-Memory-clause-steps
returns-in-Err-Memory-clause-steps g c fits limit files =
    unread_steps (g.C.Cluster.tells c.args.cluster.now) fits limit files (g.C.Cluster.history c.args.cluster.now) (g.C.Cluster.history c.reopen.new.self) c.args.event.now
    c.requires.users c.requires.run c.reopen.ensures.history (g.O.Sink.held c.args.out.now)
