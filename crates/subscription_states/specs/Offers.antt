-- What upgrades rest on, and the state that they make.
use Rattle.std.specs.Prelude.{◌≡◌, if◌then◌else◌}
use Rattle.cluster_objects.specs.declared.statuses.SubSpec.{SubSpec}
use Rattle.cluster_objects.specs.declared.statuses.SubState.{SubState}
use Rattle.cluster_objects.specs.declared.statuses.SubState.TheVariants as state
use Rattle.cluster_history.specs.Views.{View}
use Rattle.view_basis.specs.Tips.{tips}
use Rattle.view_basis.specs.Visible.{visible_catalogs}
use Rattle.problem_build.specs.Asking.{upgrades_from}
use Rattle.csv_phases.specs.States.{is_empty}
use Rattle.subscription_states.specs.declared.offered.Offered.{Offered}

-- It is what the view shows.
pub record IsOffered (view : View) (offered : Offered) : Type 0 where
  pub catalogs : offered.catalogs ≡ visible_catalogs view
  pub tips : offered.tips ≡ tips view

-- The state of a subscription of which one is installed and none is on its way.
abbrev pub by_upgrades : View → SubSpec → SubState
by_upgrades view spec =
    if is_empty (upgrades_from (visible_catalogs view) (tips view) spec) then state.AtLatestKnown else state.UpgradeAvailable
