use Rattle.std.proofs.Common.{Option, ap, sym, ◌∙◌}
use Rattle.cluster_objects.specs.declared.groups.LeaseStatus.{LeaseStatus}
use Rattle.lease_fence.specs.Grants.{granted, lease_written}
use Rattle.lease_fence.proofs.Granting.{kept_is, renewed_is, over_is}
use Rattle.lease_fence.proofs.laws.holders_are_left_alone.Goals as goal

pub returns-clause-kept : goal.returns-clause-kept
returns-clause-kept c h w given old there early =
    kept_is old given.holder given.held given.moment given.keep given.lease early
    (ap (λ (x : Option LeaseStatus). lease_written (granted x given.holder given.held given.moment given.keep)) (sym there) ∙ given.gives)

pub returns-clause-renewal : goal.returns-clause-renewal
returns-clause-renewal c old holder held moment keep lease is = renewed_is old holder held moment keep lease is

pub returns-clause-new : goal.returns-clause-new
returns-clause-new c old holder held moment keep lease is = over_is old holder held moment keep lease is
