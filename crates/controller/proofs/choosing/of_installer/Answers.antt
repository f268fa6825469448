use Rattle.std.proofs.Common.{Option, subst}
use Rattle.cluster_objects.specs.declared.objects.Write.{Write}
use Rattle.controller_rules.specs.Enabled.{IsFirst}
use Rattle.controller_rules.specs.declared.roles.Role.TheVariants.{Installer}
use Rattle.run_rules.specs.Settling.{ByInstaller}
use Rattle.controller.proofs.choosing.of_installer.Goals as goal

pub returns-in-Ok-Some : goal.returns-in-Ok-Some
returns-in-Ok-Some c =
    ByInstaller c.requires
    (subst (λ (o : Option Write). IsFirst Installer c.args.view.now o) c.in-Ok-Some.field-0-is c.in-Ok-Some.ensures)

pub of_phases-requires-clause-installer : goal.of_phases-requires-clause-installer
of_phases-requires-clause-installer c =
    subst (λ (o : Option Write). IsFirst Installer c.args.view.now o) c.in-Ok-None.field-0-is c.in-Ok-None.ensures
