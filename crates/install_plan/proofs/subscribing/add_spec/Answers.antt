use Rattle.std.proofs.Common.{codes}
use Rattle.install_plan.specs.Subscribing.{channel_fields, last_fields, source_fields}
use Rattle.install_plan.proofs.Joining.{five}
use Rattle.install_plan.proofs.subscribing.add_spec.Goals as goal

pub returns : goal.returns
returns c =
    five c.args.out.now.items (codes "\"},\"spec\":{") (channel_fields c.args.manual c.args.taken.now) (source_fields c.args.taken.now) (last_fields c.args.taken.now)
    (codes "\"}}") _ _ _ _ _ c.in_ok-extend_from_slice.ensures.items c.in_ok-add_channel.ensures c.in_ok-add_source.ensures c.in_ok-add_last.ensures
    c.in_ok-extend_from_slice-2.ensures.items
