use Rattle.std.proofs.Common.{◌&&◌, ap}
use Rattle.std.specs.List.{list_any}
use Rattle.name_tables.specs.Sets.{has_owned, same}
use Rattle.name_tables.proofs.owned.OwnedNames.new.Goals as goal

pub returns : goal.returns
unfolding has_owned
returns c = λ owner name. ap (list_any (λ kept. same owner kept.owner.now && same name kept.name.now)) c.new.ensures.empty
