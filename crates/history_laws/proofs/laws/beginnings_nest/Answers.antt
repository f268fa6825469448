use Rattle.history_laws.proofs.Beginnings.{nest, view_of, whole, length_of, base_stays}
use Rattle.history_laws.proofs.laws.beginnings_nest.Goals as goal

pub returns-clause-nest : goal.returns-clause-nest
returns-clause-nest c h a b low = nest h a b low

pub returns-clause-view : goal.returns-clause-view
returns-clause-view c h namespace a b low = view_of h namespace a b low

pub returns-clause-whole : goal.returns-clause-whole
returns-clause-whole c h a low = whole h a low

pub returns-clause-length : goal.returns-clause-length
returns-clause-length c h a low high = length_of h a low high

pub returns-clause-base : goal.returns-clause-base
returns-clause-base c h a = base_stays h a
