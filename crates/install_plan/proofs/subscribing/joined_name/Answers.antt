use Rattle.install_plan.proofs.Naming.{new_is_name}
use Rattle.install_plan.proofs.subscribing.joined_name.Goals as goal

pub returns-clause-name : goal.returns-clause-name
returns-clause-name c =
    new_is_name c.args.taken.now c.as_bytes.ensures.name c.as_bytes-2.ensures.name c.as_bytes-3.ensures.name c.as_bytes-4.ensures.name
