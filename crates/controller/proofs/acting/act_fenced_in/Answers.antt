use Rattle.std.proofs.Common.{inl}
use Rattle.controller.specs.Answers.{outside_of}
use Rattle.controller.proofs.Trying.{of_fresh_then, same_outside}
use Rattle.controller.proofs.acting.act_fenced_in.Goals as goal

pub returns-in-Fresh-clause-answer : goal.returns-in-Fresh-clause-answer
returns-in-Fresh-clause-answer g c =
    let old = c.args.cluster.now in
    let mid = c.fence_of.new.cluster in
    let fenced = c.in-Fresh.ensures in
    of_fresh_then (outside_of (g.C.Cluster.tells mid) g.C.Cluster.fits (g.C.Cluster.limit mid))
    (outside_of (g.C.Cluster.tells old) g.C.Cluster.fits (g.C.Cluster.limit old)) c.args.worker.now c.args.view.now
    (g.C.Cluster.history old) (g.C.Cluster.history mid) (g.C.Cluster.history c.act_in.new.cluster) c.act_in.result
    (same_outside (g.C.Cluster.tells mid) (g.C.Cluster.tells old) g.C.Cluster.fits (g.C.Cluster.limit mid) (g.C.Cluster.limit old) fenced.tells fenced.limit)
    fenced.history fenced.answer c.act_in.ensures.answer

pub returns-in-Failed-clause-answer : goal.returns-in-Failed-clause-answer
returns-in-Failed-clause-answer g c = inl (c.in-Failed.ensures.answer, c.in-Failed.ensures.history)
