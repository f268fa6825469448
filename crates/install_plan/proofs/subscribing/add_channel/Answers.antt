use Rattle.std.proofs.Common.{codes}
use Rattle.install_plan.specs.Subscribing.{approval}
use Rattle.install_plan.proofs.Joining.{four}
use Rattle.install_plan.proofs.subscribing.add_channel.Goals as goal

pub returns : goal.returns
returns c =
    four c.args.out.now.items (codes "\"channel\":\"") c.args.taken.now.channel (codes "\",\"installPlanApproval\":\"") (approval c.args.manual) _ _ c.in_ok-add.ensures c.in_ok-add_approval.ensures
