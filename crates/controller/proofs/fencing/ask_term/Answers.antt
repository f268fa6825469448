use Rattle.std.proofs.Common.{sym, ap, subst, ◌∙◌}
use Rattle.cluster_objects.specs.declared.objects.Writer.{Writer}
use Rattle.lease_fence.specs.Leases.{term}
use Rattle.controller.specs.Answers.{IsFence}
use Rattle.controller.specs.declared.answers.Fence.{Fence}
use Rattle.controller.proofs.Judging.{judged_now}
use Rattle.controller.proofs.fencing.ask_term.Goals as goal

pub returns-in-Ok-clause-answer : goal.returns-in-Ok-clause-answer
returns-in-Ok-clause-answer g c =
    let h = g.C.Cluster.history c.args.cluster.now in
    let worker = c.args.worker.now in
    let same = c.in-Ok.ensures.term ∙ ap (λ (w : Writer). term h worker.namespace w) c.writer_of.ensures.role in
    subst (λ (f : Fence). IsFence h worker f) (sym c.judged.ensures) (judged_now h worker c.in-Ok.found same)
