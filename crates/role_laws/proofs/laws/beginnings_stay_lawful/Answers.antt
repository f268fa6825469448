use Rattle.role_laws.proofs.Kept.{first_kept}
use Rattle.role_laws.proofs.laws.beginnings_stay_lawful.Goals as goal

pub returns : goal.returns
returns c is_valid h a kept = first_kept is_valid h a kept
