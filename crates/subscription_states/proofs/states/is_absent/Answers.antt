use Rattle.std.proofs.Common.{ap, ◌∙◌}
use Rattle.std.specs.Option.{is_none}
use Rattle.subscription_states.proofs.Absent.{not_installed, told}
use Rattle.subscription_states.proofs.states.is_absent.Goals as goal

pub returns : goal.returns
returns c =
    told c.installed_of.result c.is_none.result c.is_none.ensures
    ∙ ap is_none c.installed_of.ensures
    ∙ not_installed c.args.view.now c.args.package.now
