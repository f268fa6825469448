use Rattle.lawful_history.specs.Lawful.{Installs}
use Rattle.plan_steps.proofs.laws.installer_writes_are_allowed.Goals as goal

pub returns : goal.returns
returns c is_valid h namespace a i w low up is = Installs namespace a i low up is
