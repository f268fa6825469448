use Rattle.std.proofs.Common.{subst}
use Rattle.cluster_history.specs.Views.{View}
use Rattle.controller.specs.Answers.{IsNext}
use Rattle.controller.proofs.settling.next_write.Goals as goal

pub returns-in-Ok-clause-next : goal.returns-in-Ok-clause-next
returns-in-Ok-clause-next g c = subst (λ (v : View). IsNext v c.in-Ok.next) c.in_ok-view.ensures.view c.in-Ok.ensures
