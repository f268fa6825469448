use Rattle.std.proofs.Common.{Option, refl, subst}
use Rattle.cluster_objects.specs.declared.objects.Write.{Write}
use Rattle.controller_rules.specs.Enabled.{IsFirst}
use Rattle.controller.specs.Answers.{outside_of}
use Rattle.controller.proofs.Trying.{of_write}
use Rattle.controller.proofs.acting.act_in.Goals as goal

pub returns-in-Ok-Some-clause-answer : goal.returns-in-Ok-Some-clause-answer
returns-in-Ok-Some-clause-answer g c =
    let old = c.args.cluster.now in
    let first = subst (λ (o : Option Write). IsFirst c.args.role c.args.view.now o) c.in-Ok-Some.field-0-is c.in-Ok-Some.ensures in
    of_write (outside_of (g.C.Cluster.tells old) g.C.Cluster.fits (g.C.Cluster.limit old)) c.args.role c.args.view.now
    (g.C.Cluster.history old) (g.C.Cluster.history c.try_write.new.cluster) c.in-Ok-Some.write c.try_write.result
    first c.try_write.ensures.answer

pub returns-in-Ok-None-clause-answer : goal.returns-in-Ok-None-clause-answer
returns-in-Ok-None-clause-answer g c =
    (subst (λ (o : Option Write). IsFirst c.args.role c.args.view.now o) c.in-Ok-None.field-0-is c.in-Ok-None.ensures, refl)
