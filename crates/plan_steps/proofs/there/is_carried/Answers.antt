use Rattle.std.proofs.Common.{◌∙◌}
use Rattle.plan_steps.proofs.Stamped.{any_times}
use Rattle.plan_steps.proofs.there.is_carried.Goals as goal

pub returns : goal.returns
returns c = c.has_stamp.ensures ∙ any_times c.args.stamp.now c.args.stamps.now
