use Rattle.role_laws.proofs.Leases.{lease_later}
use Rattle.role_laws.proofs.laws.grants_go_in_order.Goals as goal

pub returns : goal.returns
returns c is_valid h w namespace role accepts kept =
    lease_later c.made_law.ensures is_valid (λ g. λ so. c.roles_are_lawful.ensures.lawful is_valid g accepts so) h w namespace role kept
