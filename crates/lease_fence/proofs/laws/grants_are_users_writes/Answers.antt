use Rattle.lease_fence.proofs.Standing.{agrees, bare, by_user, object_there, of_a_lease}
use Rattle.lease_fence.proofs.laws.grants_are_users_writes.Goals as goal

pub returns-clause-by : goal.returns-clause-by
returns-clause-by c h w given = by_user h w given

pub returns-clause-version : goal.returns-clause-version
returns-clause-version c h w given = agrees h w given

pub returns-clause-kind : goal.returns-clause-kind
returns-clause-kind c h w given = of_a_lease h w given

pub returns-clause-stamp : goal.returns-clause-stamp
returns-clause-stamp c h w given = bare h w given

pub returns-clause-object : goal.returns-clause-object
returns-clause-object c h w given = object_there h w given
