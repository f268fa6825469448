use Rattle.resolver_role.proofs.Writing.{decided_write}
use Rattle.resolver_role.proofs.decisions.decision_write.Goals as goal

pub returns : goal.returns
returns c =
    decided_write c.args.view.now c.in_ok-new.new c.resolution_write.result c.requires.awake c.requires.due c.in_ok-new.ensures
    c.resolution_write.ensures
