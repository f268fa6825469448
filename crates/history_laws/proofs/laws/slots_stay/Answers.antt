use Rattle.history_laws.proofs.Keeping.{apart, bound, nothing, grows, same, seen}
use Rattle.history_laws.proofs.Beginnings.{between}
use Rattle.history_laws.proofs.laws.slots_stay.Goals as goal

pub returns-clause-same : goal.returns-clause-same
returns-clause-same c h a key is_base is = same h a key is_base is

pub returns-clause-seen : goal.returns-clause-seen
returns-clause-seen c h namespace a key is_base visible is = seen h namespace a key is_base visible is

pub returns-clause-grows : goal.returns-clause-grows
returns-clause-grows c h a key is_base = grows h a key is_base

pub returns-clause-bound : goal.returns-clause-bound
returns-clause-bound c h key is_base = bound h key is_base

pub returns-clause-nothing : goal.returns-clause-nothing
returns-clause-nothing c h key is_base is = nothing h key is_base is

pub returns-clause-between : goal.returns-clause-between
returns-clause-between c h a b key is_base low is = between h a b key is_base low is

pub returns-clause-apart : goal.returns-clause-apart
returns-clause-apart c h a b is_base some is = apart h a b is_base some is
