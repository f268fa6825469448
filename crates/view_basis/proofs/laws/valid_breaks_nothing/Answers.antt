use Rattle.view_basis.proofs.Valid as valid
use Rattle.view_basis.proofs.laws.valid_breaks_nothing.Goals as goal

pub returns : goal.returns
returns c body catalog h = valid.valid_breaks_nothing body catalog h
