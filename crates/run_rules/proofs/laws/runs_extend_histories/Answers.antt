use Rattle.run_rules.specs.Laws.{anything}
use Rattle.run_rules.proofs.Extending.{extend}
use Rattle.run_rules.proofs.laws.runs_extend_histories.Goals as goal

pub returns : goal.returns
returns c outside h new es outcomes tells runs = extend outside tells anything h new es outcomes runs
