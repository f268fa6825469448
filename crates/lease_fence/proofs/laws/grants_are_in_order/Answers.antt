use Rattle.lease_fence.specs.Leases.{lease_of}
use Rattle.lease_fence.proofs.Granting.{next_is}
use Rattle.lease_fence.proofs.Standing.{each_later, grant_stands, other_stays}
use Rattle.lease_fence.proofs.laws.grants_are_in_order.Goals as goal

pub returns-clause-stands : goal.returns-clause-stands
returns-clause-stands c h w given = grant_stands h w given

pub returns-clause-next : goal.returns-clause-next
returns-clause-next c h w given =
    next_is (lease_of h given.namespace given.role) given.holder given.held given.moment given.keep given.lease given.gives

pub returns-clause-others : goal.returns-clause-others
returns-clause-others c h w namespace role given apart = other_stays h w namespace role apart

pub returns-clause-each : goal.returns-clause-each
returns-clause-each c h w namespace role given = each_later h w namespace role given
