use Rattle.install_plan.proofs.Whole.{plans_are_new}
use Rattle.install_plan.proofs.laws.plans_are_new.Goals as goal

pub returns : goal.returns
returns c = record { new = plans_are_new c.made_law.ensures }
