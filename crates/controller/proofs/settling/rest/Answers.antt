use Rattle.std.proofs.Common.{Option, refl, ap}
use Rattle.std.specs.Option.{is_some}
use Rattle.cluster_objects.specs.declared.objects.Write.{Write}
use Rattle.run_rules.specs.States.{present}
use Rattle.controller.proofs.Turning.{none_is_quiet, some_is_more}
use Rattle.controller.proofs.settling.rest.Goals as goal

pub returns-in-Ok-Some-clause-answer : goal.returns-in-Ok-Some-clause-answer
returns-in-Ok-Some-clause-answer g c = (
  refl,
  some_is_more c.args.namespace.now (g.C.Cluster.history c.args.cluster.now) c.in-Ok-Some.field-0
      (ap (λ (o : Option Write). is_some o) c.in-Ok-Some.field-0-is) c.in-Ok-Some.ensures.next,
)

pub returns-in-Ok-None-clause-answer : goal.returns-in-Ok-None-clause-answer
returns-in-Ok-None-clause-answer g c = (
  refl,
  none_is_quiet (present (g.C.Cluster.history c.args.cluster.now) c.args.namespace.now) c.in-Ok-None.field-0 c.in-Ok-None.field-0-is c.in-Ok-None.ensures.next,
)
