-- What the installer and phases do first in a view.
use Rattle.std.specs.Prelude.{◌≡◌, false, List, [], Some, slice_get}
use Rattle.cluster_objects.specs.declared.objects.Write.{Write}
use Rattle.cluster_objects.specs.declared.resolutions.Outcome.TheVariants as outcome
use Rattle.cluster_objects.specs.declared.resolutions.ResolutionStatus.{ResolutionStatus}
use Rattle.cluster_history.specs.Views.{View}
use Rattle.lawful_history.specs.Installing.{installer_writes}
use Rattle.csv_phases.specs.Phases.{phases_writes}

-- What a resolution holds is no matter of these two roles.
abbrev pub a_resolution : ResolutionStatus
a_resolution = record { number = 1; budget = 10000; again = false; basis = record { subscriptions = []; tips = []; catalogs = [] }; outcome = outcome.Refused; certificate = [] }

-- the installer's first write in this view
abbrev pub Installs : View → Write → Type 0
Installs view w = slice_get (installer_writes view) 0 ≡ Some w

-- no write of the installer, and this one is the first of phases
abbrev pub Moves : View → Write → Type 0
Moves view w = (installer_writes view ≡ []) × (slice_get (phases_writes view) 0 ≡ Some w)
