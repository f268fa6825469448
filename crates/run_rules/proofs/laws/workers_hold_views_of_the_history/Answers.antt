use Rattle.run_rules.specs.Laws.{anything}
use Rattle.run_rules.proofs.Holding.{hold}
use Rattle.run_rules.proofs.laws.workers_hold_views_of_the_history.Goals as goal

pub returns : goal.returns
returns c outside h es new outcomes tells all i worker held at is = hold outside tells anything h es new outcomes all i worker at held is
