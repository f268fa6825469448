use Rattle.plan_steps.proofs.Each.{one_each}
use Rattle.plan_steps.proofs.laws.plans_have_one_write_each.Goals as goal

pub returns : goal.returns
returns c view = one_each view
