use Rattle.event_runs.proofs.events.run_event.Goals as goal

pub returns-else-is_users-clause-steps : goal.returns-else-is_users-clause-steps
returns-else-is_users-clause-steps g c =
    c.restart.ensures.steps g.C.Cluster.fits (g.C.Cluster.limit c.args.cluster.now) (g.F.Folder.held c.args.folder.now)
