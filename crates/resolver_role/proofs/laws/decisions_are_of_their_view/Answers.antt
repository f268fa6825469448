use Rattle.resolver_role.proofs.Written.{written_is_decided}
use Rattle.resolver_role.proofs.laws.decisions_are_of_their_view.Goals as goal

pub returns : goal.returns
returns c view w new is at = written_is_decided view w new is at
