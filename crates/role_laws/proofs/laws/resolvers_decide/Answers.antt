use Rattle.role_laws.proofs.Resolutions.{decided}
use Rattle.role_laws.proofs.laws.resolvers_decide.Goals as goal

pub returns : goal.returns
returns c is_valid h w object new kept resolver puts put = decided is_valid h w object new kept resolver puts put
