-- What is enabled for a role in a view.
use Rattle.std.specs.Prelude.{◌≡◌, ℕ, Option, Some, None, slice_get}
use Rattle.cluster_objects.specs.declared.objects.Write.{Write}
use Rattle.cluster_objects.specs.declared.objects.Writer.{Writer}
use Rattle.cluster_objects.specs.declared.objects.Writer.TheVariants as writer
use Rattle.cluster_history.specs.Views.{View}
use Rattle.lawful_history.specs.Installing.{installer_writes}
use Rattle.csv_phases.specs.Phases.{phases_writes}
use Rattle.controller_rules.specs.Resolving.{HasNoWrite, IsResolversWrite}
use Rattle.controller_rules.specs.declared.roles.Role.{Role}
use Rattle.controller_rules.specs.declared.roles.Role.TheVariants.{Resolver, Installer, Phases}

-- who a role writes as
abbrev pub writer_of : Role → Writer
writer_of Resolver = writer.Resolver
writer_of Installer = writer.Installer
writer_of Phases = writer.Phases

-- The write is one of the role's in the view.
abbrev pub IsEnabled : Role → View → Write → Type 0
IsEnabled Resolver view w = IsResolversWrite view w
IsEnabled Installer view w = (i : ℕ) × (slice_get (installer_writes view) i ≡ Some w)
IsEnabled Phases view w = (i : ℕ) × (slice_get (phases_writes view) i ≡ Some w)

-- the resolver has one write at most, but for the decision, which is free among all that are one
abbrev pub IsResolversFirst : View → Option Write → Type 0
IsResolversFirst view None = HasNoWrite view
IsResolversFirst view (Some w) = IsResolversWrite view w

-- The answer is the first of the role's writes in the view, and None where it has none.
abbrev pub IsFirst : Role → View → Option Write → Type 0
IsFirst Resolver view answer = IsResolversFirst view answer
IsFirst Installer view answer = answer ≡ slice_get (installer_writes view) 0
IsFirst Phases view answer = answer ≡ slice_get (phases_writes view) 0

-- No role has a write.
pub record IsQuiet (view : View) : Type 0 where
  pub resolver : IsFirst Resolver view None
  pub installer : IsFirst Installer view None
  pub phases : IsFirst Phases view None
