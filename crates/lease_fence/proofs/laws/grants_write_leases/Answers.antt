use Rattle.lease_fence.proofs.Standing.{grant_made}
use Rattle.lease_fence.proofs.laws.grants_write_leases.Goals as goal

pub returns : goal.returns
returns c fits limit h namespace role holder held moment keep new result place worker number latest shortest longest told =
    grant_made fits limit h namespace role holder held moment keep new result place worker number latest shortest longest told
