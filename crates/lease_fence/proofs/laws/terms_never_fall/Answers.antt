use Rattle.cluster_history.specs.History.{After}
use Rattle.lease_fence.specs.Leases.{lease_of}
use Rattle.lease_fence.proofs.Granting.{term_later}
use Rattle.lease_fence.proofs.Standing.{each_later}
use Rattle.lease_fence.proofs.laws.terms_never_fall.Goals as goal

pub returns : goal.returns
returns c h w namespace role given = term_later (lease_of h namespace role) (lease_of (After w h) namespace role) (each_later h w namespace role given)
