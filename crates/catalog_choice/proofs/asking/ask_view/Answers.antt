use Rattle.view_basis.specs.Basis.{basis}
use Rattle.view_basis.specs.Visible.{visible_catalogs}
use Rattle.catalog_choice.proofs.Closing.{built_is_closed}
use Rattle.catalog_choice.proofs.asking.ask_view.Goals as goal

pub returns-clause-closed : goal.returns-clause-closed
returns-clause-closed c =
    built_is_closed c.named_variables_are_there.ensures (basis c.args.view.now) (visible_catalogs c.args.view.now) c.in_ok-problem.field-0 c.in_ok-problem.ensures
