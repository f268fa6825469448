-- What is built of a view is closed.
use Rattle.std.proofs.Common.{List, Ok}
use Rattle.cluster_objects.specs.declared.resolutions.Basis.{Basis}
use Rattle.op_constraints.specs.Meets.{IsClosed}
use Rattle.view_basis.specs.declared.visible.Visible.{Visible}
use Rattle.problem_build.specs.Building.{IsBuilt}
use Rattle.problem_build.specs.Laws.{AllAreThere}
use Rattle.problem_build.specs.declared.building.Built.{Built}

pub built_is_closed : AllAreThere → (basis : Basis) (catalogs : List Visible) (built : Built) → IsBuilt basis catalogs (Ok built) → IsClosed built.problem
built_is_closed there basis catalogs built (reached, are, answer) =
    there basis catalogs built.problem built.names (record { reached = reached; are_reached = are; is_problem = answer.0; are_names = answer.1 })
