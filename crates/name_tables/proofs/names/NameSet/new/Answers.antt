use Rattle.std.proofs.Common.{ap}
use Rattle.std.specs.List.{list_any}
use Rattle.name_tables.specs.Sets.{has, same}
use Rattle.name_tables.proofs.names.NameSet.new.Goals as goal

pub returns : goal.returns
unfolding has
returns c = λ name. ap (list_any (λ kept. same name kept.now)) c.new.ensures.empty
