use Rattle.event_runs.proofs.events.run_users.Goals as goal

pub returns-clause-steps : goal.returns-clause-steps
returns-clause-steps g c =
    c.conclude.ensures.steps (g.C.Cluster.tells c.args.cluster.now) g.C.Cluster.fits (g.C.Cluster.limit c.args.cluster.now) (g.F.Folder.held c.args.folder.now)
    (g.C.Cluster.history c.args.cluster.now) (g.C.Cluster.history c.user_event-answer.new.cluster) c.user_event-answer.ensures.answer
