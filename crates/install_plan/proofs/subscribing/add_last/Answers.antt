use Rattle.std.proofs.Common.{codes}
use Rattle.install_plan.specs.Subscribing.{approval}
use Rattle.install_plan.proofs.Joining.{four}
use Rattle.install_plan.proofs.subscribing.add_last.Goals as goal

pub returns : goal.returns
returns c =
    four c.args.out.now.items (codes "\",\"sourceNamespace\":\"") c.args.taken.now.catalog_namespace (codes "\",\"startingCSV\":\"") c.args.taken.now.name _ _ c.in_ok-add.ensures c.in_ok-add-2.ensures
