use Rattle.controller.proofs.Nexting.{phases_next}
use Rattle.controller.proofs.choosing.of_phases.Goals as goal

pub returns : goal.returns
returns c = phases_next c.args.view.now c.phases_first.result c.requires.resolver c.requires.installer c.phases_first.ensures
