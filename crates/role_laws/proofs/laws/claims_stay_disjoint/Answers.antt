use Rattle.role_laws.proofs.Claims.{claims_disjoint}
use Rattle.role_laws.proofs.laws.claims_stay_disjoint.Goals as goal

pub returns : goal.returns
returns c is_valid h kept = claims_disjoint is_valid h kept
