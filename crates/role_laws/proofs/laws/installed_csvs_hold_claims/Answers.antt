use Rattle.role_laws.proofs.Installing.{holds_claims}
use Rattle.role_laws.proofs.laws.installed_csvs_hold_claims.Goals as goal

pub returns : goal.returns
returns c is_valid h w object new targets kept phases puts put ready group =
    holds_claims is_valid h w object new targets kept phases puts put ready group
