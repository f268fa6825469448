use Rattle.view_basis.specs.Tips.{is_tip_of, tip_in}
use Rattle.view_basis.proofs.Found.{found_there}
use Rattle.view_basis.proofs.laws.installed_is_first.Goals as goal

pub returns : goal.returns
returns c view «package» = found_there (tip_in view) (is_tip_of «package») view.slots
